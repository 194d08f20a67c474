use Rattle.std.proofs.Common.{rules, ◌≡◌, ◌∙◌, ◌≤◌, ℕ, min, slice_set}
use Rattle.std.specs.Prelude.{slice_index}
use Rattle.std.specs.Map.{keys_of}
use Rattle.sag_time.specs.Interval.{Interval}
use Rattle.sag_step.proofs.CutEnds.{begun-at, ended-at, ended-missing, listed-within}
use Rattle.sag_step.proofs.ends.end_by.Goals as goal

pub returns-in_default : goal.returns-in_default
returns-in_default c = λ k. record { items = ended-missing c.args.job c.args.moment c.args.ends.now.items c.in_default.ensures.missing k; room = c.args.ends.now.room }

pub at-span-requires : goal.at-span-requires
at-span-requires c = listed-within c.args.ends.now.items c.in-Some.place c.args.job c.in-Some.ensures.place

pub set_span-requires : goal.set_span-requires
set_span-requires c = listed-within c.args.ends.now.items c.in-Some.place c.args.job c.in-Some.ensures.place

pub unwrap-requires : goal.unwrap-requires
unwrap-requires c =
    let begun : c.at-span.result.1.lo ≤ c.args.moment =
    begun-at c.args.ends.now.items c.in-Some.place c.args.job c.args.moment c.at-span.result c.in-Some.ensures.place c.at-span.ensures.item c.requires.begun in
    search rules

pub returns : goal.returns
returns c =
    let e : ℕ × Interval = c.at-span.result in
    let cut : c.unwrap.result ≡ record { lo = e.1.lo; hi = min e.1.hi c.args.moment } = search rules in
    let own : ℕ = slice_index (keys_of c.args.ends.now.items) c.in-Some.place in
    c.set_span.ensures
    ∙ (λ k. record { items = slice_set c.args.ends.now.items c.in-Some.place (own, cut k); room = c.args.ends.now.room })
    ∙ (λ k. record {
      items = ended-at c.args.job c.args.moment c.args.ends.now.items c.in-Some.place e c.at-span.ensures.ends.rising c.in-Some.ensures.place c.at-span.ensures.item k;
      room = c.args.ends.now.room;
    })
