-- The words for the ends of an interval.
--   end_word   how an end is spelled
--   GivesEnd   the text of a place gives this end
use Rattle.std.specs.Prelude.{◌≡◌, Option, Some, codes}
use Rattle.clap.specs.Words.{Text}
use Rattle.job_model.specs.declared.interval_end.End.{End}
use Rattle.job_model.specs.declared.interval_end.End.TheVariants.{Best, Worst}

-- how an end is spelled
abbrev pub end_word : End → Text
end_word Best = codes "best"
end_word Worst = codes "worst"

-- the text is there, and is the word for the end
abbrev pub GivesEnd : Option Text → End → Type 0
GivesEnd text end = text ≡ Some (end_word end)
