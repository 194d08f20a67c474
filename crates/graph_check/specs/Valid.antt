-- Valid certificates. The clauses K1 to K11 are this project's own: the literature proves the analysis and knows no certificate.
-- They ask that the lines are a graph whose states cover those that the literature's expansion gives (specs of sag_step and of
-- start_windows name the papers), so that the intervals of jobs hold in each run.
--     IsBlockBy, IsValidBlock         a level above 0 keeps clauses K4 to K8, with any relation for K8, and with that of the format
--     KeepsBy, KeepsClauses           a certificate keeps clauses K1 to K11
--     Valid table m lines             the lines are those of a certificate that keeps them
use Rattle.std.specs.Prelude.{◌≡◌, ℕ, Bool, List, [], ◌∷◌, ◌≤◌, ◌↔◌, length, map, IsTrue, IsSomeAnd, slice_get}
use Rattle.std.specs.Option.{option_map_or}
use Rattle.std.specs.List.{enumerate_from, list_all, AllZip, AllByRecursion}
use Rattle.job_sets.specs.Subset.{with_number}
use Rattle.job_model.specs.Table.{Table, job_at}
use Rattle.sag_time.specs.Interval.{covers}
use Rattle.start_windows.specs.Window.{is_candidate}
use Rattle.sag_step.specs.State.{SystemState, root}
use Rattle.sag_step.specs.Next.{finish_interval}
use Rattle.sag_step.specs.Widen.{widens}
use Rattle.sag_step.specs.Shape.{HasShape}
use Rattle.sag_step.specs.Offers.{Offer, offers}
use Rattle.cert_text.specs.declared.line.CertLine.{CertLine}
use Rattle.graph_check.specs.Entries.{state_from, root_from, JobEntry, is_ok_mark}
use Rattle.graph_check.specs.Certificate.{StateEntry, EdgeEntry, Block, Certificate, lines_of, all_edges}

-- ---- K4 to K8: a level above 0, where `before` has the states of the level before it

-- The entry names one of these states and a candidate of it.
abbrev pub NamesCandidate : Table → List SystemState → StateEntry → Type 0
NamesCandidate table before s = IsSomeAnd (slice_get before s.parent) (λ parent. IsTrue (is_candidate table parent.set.members s.job))

-- the jobs of the parent, if the entry names one
abbrev pub parent_set : List SystemState → ℕ → List ℕ
parent_set before parent = option_map_or (λ p. p.set.members) (slice_get before parent) []

-- its set is the parent's with that job
abbrev pub entry_state : Table → List SystemState → StateEntry → SystemState
entry_state table before s = state_from table (with_number s.job (parent_set before s.parent)) s.pairs s.ends s.last

-- the states of a level, each with its set
abbrev pub block_states : Table → List SystemState → Block → List SystemState
block_states table before block = map (entry_state table before) block.states

-- The edge leads to one of these states, which widens the offer's.
abbrev pub LeadsToWider : List SystemState → EdgeEntry → Offer → Type 0
LeadsToWider states edge offer = IsSomeAnd (slice_get states edge.to) (λ s. IsTrue (widens s offer.next))

-- which state takes which job
abbrev pub edge_choice : EdgeEntry → ℕ × ℕ
edge_choice e = (e.from, e.job)

-- the same of an offer
abbrev pub offer_choice : Offer → ℕ × ℕ
offer_choice o = (o.from, o.job)

-- The level keeps clauses K4 to K8 over the states of the level before it. K8 asks that each edge leads to a state that may
-- follow its offer: `Leads before states edge offer`.
pub record IsBlockBy (Leads : List SystemState → List SystemState → EdgeEntry → Offer → Type 0) (table : Table) (m : ℕ) (before : List SystemState) (block : Block) : Type 0 where
  -- K4
  pub candidates : AllByRecursion (NamesCandidate table before) block.states
  -- K5
  pub shapes : AllByRecursion (HasShape table m) (block_states table before block)
  -- K6
  pub all_offers : map edge_choice block.edges ≡ map offer_choice (offers table before)
  -- K7
  pub windows : map (λ e. e.window) block.edges ≡ map (λ o. o.window) (offers table before)
  -- K8
  pub targets : AllZip (Leads before (block_states table before block)) block.edges (offers table before)

-- each block does so over the states of the one before it
abbrev pub AreBlocksBy : (List SystemState → List SystemState → EdgeEntry → Offer → Type 0) → Table → ℕ → List SystemState → List Block → Type 0
AreBlocksBy Leads table m before [] = Unit {0}
AreBlocksBy Leads table m before (block ∷ blocks) = IsBlockBy Leads table m before block × AreBlocksBy Leads table m (block_states table before block) blocks

-- the edge leads to a state that widens the next state of its offer
abbrev pub IsValidBlock : Table → ℕ → List SystemState → Block → Type 0
IsValidBlock = IsBlockBy (λ before. LeadsToWider)

-- each block is valid over the states of the one before it
abbrev pub AreValidBlocks : Table → ℕ → List SystemState → List Block → Type 0
AreValidBlocks = AreBlocksBy (λ before. LeadsToWider)

-- ---- K9 and K10: the jobs

-- The span of the edge's job covers the edge's finish interval.
abbrev pub IsInSpan : Table → List JobEntry → EdgeEntry → Type 0
IsInSpan table spans e = IsSomeAnd (slice_get spans e.job) (λ s. IsTrue (covers s.span (finish_interval table e.job e.window)))

-- The mark of a job, here with its number, is ok exactly where its interval ends by its deadline.
abbrev pub IsMarkedRight : Table → ℕ × JobEntry → Type 0
IsMarkedRight table s = IsTrue (is_ok_mark s.1.mark) ↔ (s.1.span.hi ≤ (job_at table s.0).deadline)

-- ---- the clauses together

-- The certificate keeps clauses K1 to K11 for the table on m cores, where `wide` says in K3 which state widens which, and
-- `Leads` in K8 where an edge may lead.
pub record KeepsBy (wide : SystemState → SystemState → Bool) (Leads : List SystemState → List SystemState → EdgeEntry → Offer → Type 0) (table : Table) (m : ℕ) (c : Certificate) : Type 0 where
  -- K1
  pub jobs : c.jobs ≡ length table.jobs
  pub cores : c.cores ≡ m
  -- K2, but for the order of the lines
  pub level_count : length c.blocks ≡ length table.jobs
  pub job_count : length c.spans ≡ length table.jobs
  -- K3, and K5 of level 0
  pub one_root : c.root_count ≡ 1
  pub root_shape : HasShape table m (root_from table c.root)
  pub root_wide : IsTrue (wide (root_from table c.root) (root table m))
  -- K4 to K8
  pub blocks : AreBlocksBy Leads table m (root_from table c.root ∷ []) c.blocks
  -- K9
  pub spans : AllByRecursion (λ s. s.span.lo ≤ s.span.hi) c.spans
  pub in_spans : AllByRecursion (IsInSpan table c.spans) (all_edges c)
  -- K10
  pub marks : AllByRecursion (IsMarkedRight table) (enumerate_from 0 c.spans)
  -- K11
  pub verdict : is_ok_mark c.verdict ≡ list_all (λ s. is_ok_mark s.mark) c.spans

-- The certificate keeps clauses K1 to K11 for the table on m cores.
abbrev pub KeepsClauses : Table → ℕ → Certificate → Type 0
KeepsClauses = KeepsBy widens (λ before. LeadsToWider)

-- The lines are those of a certificate that keeps the clauses.
pub record Valid (table : Table) (m : ℕ) (lines : List CertLine) : Type 0 where
  pub certificate : Certificate
  pub in_order : lines ≡ lines_of certificate
  pub keeps : KeepsClauses table m certificate
