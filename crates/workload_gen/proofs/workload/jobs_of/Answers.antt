use Rattle.std.proofs.Common.{◌∙◌, ap}
use Rattle.rand_pcg.specs.Lcg.{advance}
use Rattle.rand_pcg.specs.Pcg.{multiplier_64}
use Rattle.workload_gen.specs.Workload.{generator_of}
use Rattle.workload_gen.proofs.WorkloadLemmas.{jobs_more, words_more, words_none}
use Rattle.workload_gen.proofs.workload.jobs_of.Goals as goal

pub loop-i-init : goal.loop-i-init
loop-i-init c = (c.new-jobs.ensures.items, c.new-generator.ensures ∙ words_none (generator_of c.args.number))

pub loop-i-preserved : goal.loop-i-preserved
loop-i-preserved c =
    let i = c.loop-i.i in
    let more = jobs_more c.args.number i c.loop-i.jobs.items c.loop-i.generator c.next_words-words.result c.job_by_words.result c.loop-i.invariant.0 c.loop-i.invariant.1 c.next_words-words.ensures.words c.job_by_words.ensures in (
      c.in_ok-push.ensures.items ∙ more,
      c.next_words-words.ensures.moved ∙ ap (advance 64 multiplier_64 5) c.loop-i.invariant.1 ∙ words_more i (generator_of c.args.number),
    )
