-- The lines of the jobs, one by one.
use Rattle.std.proofs.Common.{◌≡◌, ◌∙◌, ℕ, ◌+◌, ◌<◌, ◌≤◌, ◌++◌, ◌∷◌, ◌&&◌, List, [], Bool, ap, refl, sym, zero, suc, arith, append-nil, append_assoc, get_or, length, min, take}
use Rattle.std.specs.List.{enumerate_from, flat_map}
use Rattle.std.proofs.lemmas.List.{take_more, take_all}
use Rattle.std.proofs.lemmas.List.Concat.{flat_map-append}
use Rattle.std.proofs.lemmas.List.Folds.{list_all_more}
use Rattle.job_model.specs.declared.job_row.Job.{Job}
use Rattle.job_model.specs.Table.{Table, job_at}
use Rattle.sag_time.specs.Interval.{Interval}
use Rattle.cert_text.specs.declared.line.Mark.{Mark}
use Rattle.graph_check.specs.Entries.{JobEntry, is_ok_mark}
use Rattle.graph_check.specs.Told.{entries_of}
use Rattle.cert_check.specs.AnswerTexts.{entry_text, job_text, are_all_ok}

pub count_is : (spans : List Interval) (marks : List Mark) → length (entries_of spans marks) ≡ min (length spans) (length marks)
count_is [] marks = omega arith
count_is (s ∷ spans) [] = omega arith
count_is (s ∷ spans) (m ∷ marks) = omega (arith, count_is spans marks)

-- the entry of a number
pub entry_at : (spans : List Interval) (marks : List Mark) (i : ℕ) (s : Interval) (m : Mark) (e : JobEntry) → i < length spans → i < length marks
    → get_or (entries_of spans marks) i e ≡ record { span = get_or spans i s; mark = get_or marks i m }
entry_at [] marks i s m e short few = absurd (omega (arith, short))
entry_at (x ∷ spans) [] i s m e short few = absurd (omega (arith, few))
entry_at (x ∷ spans) (y ∷ marks) zero s m e short few = refl
entry_at (x ∷ spans) (y ∷ marks) (suc i) s m e short few = entry_at spans marks i s m e (omega (arith, short)) (omega (arith, few))

numbered_at : (jobs : List JobEntry) (n i : ℕ) (d : ℕ × JobEntry) (e : JobEntry) → i < length jobs → get_or (enumerate_from n jobs) i d ≡ (n + i, get_or jobs i e)
numbered_at [] n i d e short = absurd (omega (arith, short))
numbered_at (j ∷ jobs) n zero d e short = ap (λ (k : ℕ). (k, j)) (omega arith)
numbered_at (j ∷ jobs) n (suc i) d e short = numbered_at jobs (n + 1) i d e (omega (arith, short)) ∙ ap (λ (k : ℕ). (k, get_or jobs i e)) (omega arith)

numbered_length : (jobs : List JobEntry) (n : ℕ) → length (enumerate_from n jobs) ≡ length jobs
numbered_length [] n = refl
numbered_length (j ∷ jobs) n = omega (arith, numbered_length jobs (n + 1))

-- one job more
pub line_more : (table : Table) (jobs : List JobEntry) (i : ℕ) (e : JobEntry) → i < length jobs
    → flat_map (job_text table) (take (i + 1) (enumerate_from 0 jobs)) ≡ flat_map (job_text table) (take i (enumerate_from 0 jobs)) ++ job_text table (i, get_or jobs i e)
line_more table jobs i e short =
    let more = take_more (enumerate_from 0 jobs) i (i, e) (omega (arith, short, numbered_length jobs 0)) in
    ap (flat_map (job_text table)) more ∙ flat_map-append (job_text table) (take i (enumerate_from 0 jobs)) (get_or (enumerate_from 0 jobs) i (i, e) ∷ [])
    ∙ ap (λ (t : List ℕ). flat_map (job_text table) (take i (enumerate_from 0 jobs)) ++ t) (append-nil (job_text table (get_or (enumerate_from 0 jobs) i (i, e))))
    ∙ ap (λ (x : ℕ × JobEntry). flat_map (job_text table) (take i (enumerate_from 0 jobs)) ++ job_text table x) (numbered_at jobs 0 i (i, e) e short ∙ ap (λ (k : ℕ). (k, get_or jobs i e)) (omega arith))

pub verdict_more : (jobs : List JobEntry) (i : ℕ) (e : JobEntry) → i < length jobs → are_all_ok (take (i + 1) jobs) ≡ (are_all_ok (take i jobs) && is_ok_mark (get_or jobs i e).mark)
verdict_more jobs i e short = list_all_more (λ (x : JobEntry). is_ok_mark x.mark) jobs i e short

pub lines_all : (table : Table) (jobs : List JobEntry) (i : ℕ) → length jobs ≤ i → flat_map (job_text table) (take i (enumerate_from 0 jobs)) ≡ flat_map (job_text table) (enumerate_from 0 jobs)
lines_all table jobs i all = ap (flat_map (job_text table)) (take_all i (enumerate_from 0 jobs) (omega (arith, all, numbered_length jobs 0)))

pub verdict_all : (jobs : List JobEntry) (i : ℕ) → length jobs ≤ i → are_all_ok (take i jobs) ≡ are_all_ok jobs
verdict_all jobs i all = ap are_all_ok (take_all i jobs all)

pub entry_is : (spans : List Interval) (marks : List Mark) (i : ℕ) (s : Interval) (m : Mark) → i < length spans → i < length marks
    → s ≡ get_or spans i s → m ≡ get_or marks i m → get_or (entries_of spans marks) i (record { span = s; mark = m }) ≡ record { span = s; mark = m }
entry_is spans marks i s m short few span mark =
    entry_at spans marks i s m (record { span = s; mark = m }) short few
    ∙ ap (λ (x : Interval). record { span = x; mark = get_or marks i m }) (sym span) ∙ ap (λ (x : Mark). record { span = s; mark = x }) (sym mark)

pub lines_on : (table : Table) (jobs : List JobEntry) (i : ℕ) (e : JobEntry) (old before now : List ℕ) (job : Job) → i < length jobs → get_or jobs i e ≡ e → job ≡ job_at table i
    → before ≡ old ++ flat_map (job_text table) (take i (enumerate_from 0 jobs)) → now ≡ before ++ entry_text job.task job.job e
    → now ≡ old ++ flat_map (job_text table) (take (i + 1) (enumerate_from 0 jobs))
lines_on table jobs i e old before now job short here job_is front more =
    let text = flat_map (job_text table) (take i (enumerate_from 0 jobs)) in
    let last : entry_text job.task job.job e ≡ job_text table (i, get_or jobs i e) =
    ap (λ (j : Job). entry_text j.task j.job e) job_is ∙ ap (λ (x : JobEntry). job_text table (i, x)) (sym here) in
    more ∙ ap (λ (t : List ℕ). t ++ entry_text job.task job.job e) front ∙ append_assoc old text (entry_text job.task job.job e)
    ∙ ap (λ (t : List ℕ). old ++ (text ++ t)) last ∙ ap (λ (t : List ℕ). old ++ t) (sym (line_more table jobs i e short))

pub verdict_on : (jobs : List JobEntry) (i : ℕ) (e : JobEntry) (all now : Bool) → i < length jobs → get_or jobs i e ≡ e
    → all ≡ are_all_ok (take i jobs) → now ≡ (all && is_ok_mark e.mark) → now ≡ are_all_ok (take (i + 1) jobs)
verdict_on jobs i e all now short here before more =
    more ∙ ap (λ (v : Bool). v && is_ok_mark e.mark) before ∙ ap (λ (x : JobEntry). are_all_ok (take i jobs) && is_ok_mark x.mark) (sym here) ∙ sym (verdict_more jobs i e short)
