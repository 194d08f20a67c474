-- Lists of what jobs have: intervals, marks and hulls.
use Rattle.std.proofs.Common.{◌≡◌, suc, ◌&&◌, List, [], ◌∷◌, ◌++◌, length, map, replicate, Option, None, refl, ap, sym, ◌∙◌, arith}
use Rattle.std.specs.List.{list_all}
use Rattle.std.proofs.lemmas.List.{length_push, replicate_more}
use Rattle.job_model.specs.declared.job_row.Job.{Job}
use Rattle.sag_time.specs.Interval.{Interval}
use Rattle.cert_text.specs.declared.line.Mark.{Mark}
use Rattle.graph_check.specs.Entries.{is_ok_mark}
use Rattle.graph_check.specs.Told.{entries_of}

-- no job has an edge yet
pub no-hulls : (jobs : List Job) → ◌≡◌ {A = List (Option Interval)} (replicate (length jobs) None) (map (λ _. None) jobs)
no-hulls [] = refl
no-hulls (j ∷ jobs) = ap (λ hs. None ∷ hs) (no-hulls jobs)

pub entries-spans : (spans : List Interval) (marks : List Mark) → length spans ≡ length marks → map (λ s. s.span) (entries_of spans marks) ≡ spans
entries-spans [] [] e = refl
entries-spans [] (m ∷ marks) e = absurd (omega arith)
entries-spans (s ∷ spans) [] e = absurd (omega arith)
entries-spans (s ∷ spans) (m ∷ marks) e = ap (λ ss. s ∷ ss) (entries-spans spans marks (omega arith))

pub entries-marks : (spans : List Interval) (marks : List Mark) → length spans ≡ length marks → map (λ s. s.mark) (entries_of spans marks) ≡ marks
entries-marks [] [] e = refl
entries-marks [] (m ∷ marks) e = absurd (omega arith)
entries-marks (s ∷ spans) [] e = absurd (omega arith)
entries-marks (s ∷ spans) (m ∷ marks) e = ap (λ ms. m ∷ ms) (entries-marks spans marks (omega arith))

pub length-entries : (spans : List Interval) (marks : List Mark) → length spans ≡ length marks → length (entries_of spans marks) ≡ length spans
length-entries [] [] e = refl
length-entries [] (m ∷ marks) e = absurd (omega arith)
length-entries (s ∷ spans) [] e = absurd (omega arith)
length-entries (s ∷ spans) (m ∷ marks) e = ap (λ n. suc n) (length-entries spans marks (omega arith))

pub entries-more : (spans : List Interval) (marks : List Mark) (span : Interval) (mark : Mark) → length spans ≡ length marks →
    entries_of (spans ++ span ∷ []) (marks ++ mark ∷ []) ≡ entries_of spans marks ++ record { span = span; mark = mark } ∷ []
entries-more [] [] span mark e = refl
entries-more [] (m ∷ marks) span mark e = absurd (omega arith)
entries-more (s ∷ spans) [] span mark e = absurd (omega arith)
entries-more (s ∷ spans) (m ∷ marks) span mark e = ap (λ es. record { span = s; mark = m } ∷ es) (entries-more spans marks span mark (omega arith))

pub entries-ok : (spans : List Interval) (marks : List Mark) → length spans ≡ length marks → list_all (λ s. is_ok_mark s.mark) (entries_of spans marks) ≡ list_all is_ok_mark marks
entries-ok [] [] e = refl
entries-ok [] (m ∷ marks) e = absurd (omega arith)
entries-ok (s ∷ spans) [] e = absurd (omega arith)
entries-ok (s ∷ spans) (m ∷ marks) e = ap (λ b. is_ok_mark m && b) (entries-ok spans marks (omega arith))

-- one job more without a hull
pub nones-more : (hulls : List (Option Interval)) → hulls ≡ replicate (length hulls) None → hulls ++ None ∷ [] ≡ replicate (length (hulls ++ None ∷ [])) None
nones-more hulls none = ap (λ hs. hs ++ None ∷ []) none ∙ replicate_more (length hulls) None ∙ ap (λ n. replicate n None) (sym (length_push hulls None))
