-- Whole certificates of small tables, and their budgets, computed from the definitions.
use Rattle.std.proofs.Common.{◌≡◌, [], ◌∷◌, length, refl, Some, None}
use Rattle.std.specs.Prelude.{codes}
use Rattle.std.specs.Fmt.{digits}
use Rattle.job_model.specs.Table.{Table}
use Rattle.job_model.proofs.Tables.{job, table_a, table_b}
use Rattle.sag_graph.specs.Levels.{level_at, next_level}
use Rattle.sag_graph.specs.Spans.{edges_up_to, spans_by}
use Rattle.sag_graph.specs.Budget.{spent, spendings_at, state_total, edge_total}
use Rattle.sag_graph.specs.CertificateText.{text_of_graph}

-- ---- one core, two jobs

a_text : text_of_graph table_a 1 ≡ codes "sagcert 2 2 1\nlevel 0 1\nroot 0:0\nlevel 1 2\nstate 0 0 1:2 | |\nstate 0 1 2:3 | |\nedge 0 0 0 0 0\nedge 0 1 0 0 1\nlevel 2 1\nstate 0 1 3:5 | |\nedge 0 1 1 2 0\nedge 1 0 2 3 0\njob 0 1 5 ok\njob 1 2 5 ok\nverdict ok\nend\n"
unfolding digits level_at next_level edges_up_to spans_by
a_text = refl

a_bytes : length (text_of_graph table_a 1) ≡ 208
unfolding digits level_at next_level edges_up_to spans_by
a_bytes = refl

-- four states and four edges
a_within : spent table_a 1 4 ≡ None
unfolding spent spendings_at state_total edge_total level_at next_level
a_within = refl

a_over : spent table_a 1 3 ≡ Some (record { level = 2; states = 4; edges = 3 })
unfolding spent spendings_at state_total edge_total level_at next_level
a_over = refl

a_least : spent table_a 1 1 ≡ Some (record { level = 1; states = 2; edges = 1 })
unfolding spent spendings_at state_total edge_total level_at next_level
a_least = refl

-- ---- no jobs

none_text : text_of_graph (record { jobs = []; edges = [] }) 1 ≡ codes "sagcert 2 0 1\nlevel 0 1\nroot 0:0\nverdict ok\nend\n"
unfolding digits level_at next_level edges_up_to spans_by
none_text = refl

none_within : spent (record { jobs = []; edges = [] }) 1 1 ≡ None
unfolding spent spendings_at state_total edge_total level_at next_level
none_within = refl

-- ---- two cores: the first job is last on its core until its successor has started

b_text : text_of_graph table_b 2 ≡ codes "sagcert 2 3 2\nlevel 0 1\nroot 0:0 0:0\nlevel 1 1\nstate 0 0 0:0 2:4 | 0:2:4 | 0\nedge 0 0 0 0 0\nlevel 2 1\nstate 0 1 1:1 2:4 | 0:2:4 | 0\nedge 0 1 0 0 0\nlevel 3 1\nstate 0 2 2:4 3:6 | |\nedge 0 2 2 4 0\njob 0 2 4 ok\njob 1 1 1 ok\njob 2 3 6 ok\nverdict ok\nend\n"
unfolding digits level_at next_level edges_up_to spans_by
b_text = refl

-- ---- two cores: a predecessor ends by the latest start of its successor, and so frees a core

abbrev freeing : Table
freeing = record {
  jobs = job 1 1 0 0 3 3 20 1 ∷ job 2 1 0 0 3 7 20 2 ∷ job 3 1 0 0 1 1 20 3 ∷ [];
  edges = (0, 2) ∷ [];
}

freeing_text : text_of_graph freeing 2 ≡ codes "sagcert 2 3 2\nlevel 0 1\nroot 0:0 0:0\nlevel 1 1\nstate 0 0 0:0 3:3 | 0:3:3 | 0\nedge 0 0 0 0 0\nlevel 2 1\nstate 0 1 3:3 3:7 | 0:3:3 | 0\nedge 0 1 0 0 0\nlevel 3 1\nstate 0 2 3:4 4:7 | |\nedge 0 2 3 3 0\njob 0 3 3 ok\njob 1 3 7 ok\njob 2 4 4 ok\nverdict ok\nend\n"
unfolding digits level_at next_level edges_up_to spans_by
freeing_text = refl

-- ---- two cores: both predecessors are last on their cores

abbrev joining : Table
joining = record {
  jobs = job 1 1 0 0 2 10 30 2 ∷ job 2 1 0 0 2 6 30 3 ∷ job 3 1 0 0 1 1 30 4 ∷ job 4 1 5 5 1 1 30 1 ∷ [];
  edges = (0, 2) ∷ (1, 2) ∷ [];
}

joining_text : text_of_graph joining 2 ≡ codes "sagcert 2 4 2\nlevel 0 1\nroot 0:0 0:0\nlevel 1 1\nstate 0 0 0:0 2:10 | 0:2:10 | 0\nedge 0 0 0 0 0\nlevel 2 1\nstate 0 1 2:6 2:10 | 0:2:10 1:2:6 | 0 1\nedge 0 1 0 0 0\nlevel 3 2\nstate 0 2 2:4 3:5 | |\nstate 0 3 5:7 6:10 | 0:2:10 1:2:6 |\nedge 0 2 2 4 0\nedge 0 3 5 6 1\nlevel 4 1\nstate 0 3 5:10 6:11 | |\nedge 0 3 5 5 0\nedge 1 2 5 10 0\njob 0 2 10 ok\njob 1 2 6 ok\njob 2 3 11 ok\njob 3 6 7 ok\nverdict ok\nend\n"
unfolding digits level_at next_level edges_up_to spans_by
joining_text = refl

-- ---- two cores: both predecessors are last on their cores, in a state of two merged offers

abbrev merging : Table
merging = record {
  jobs = job 1 1 0 1 3 3 20 0 ∷ job 2 1 0 0 3 3 20 1 ∷ job 3 1 0 0 1 1 20 0 ∷ job 4 1 0 0 1 1 20 0 ∷ job 5 1 0 0 1 1 20 1 ∷ [];
  edges = (0, 3) ∷ (1, 3) ∷ [];
}

merging_text : text_of_graph merging 2 ≡ codes "sagcert 2 5 2\nlevel 0 1\nroot 0:0 0:0\nlevel 1 2\nstate 0 0 0:0 3:3 | 0:3:3 | 0\nstate 0 2 0:0 1:1 | |\nedge 0 0 0 0 0\nedge 0 2 0 0 1\nlevel 2 2\nstate 0 2 1:1 3:3 | 0:3:3 | 0\nstate 1 1 1:1 3:3 | 1:3:3 | 1\nedge 0 2 0 0 0\nedge 1 0 0 0 0\nedge 1 1 0 0 1\nlevel 3 1\nstate 0 1 3:3 4:4 | 0:3:4 1:3:4 | 0 1\nedge 0 1 1 1 0\nedge 1 0 1 1 0\nlevel 4 2\nstate 0 3 4:4 4:4 | |\nstate 0 4 4:4 4:4 | 0:3:4 1:3:4 |\nedge 0 3 3 3 0\nedge 0 4 3 3 1\nlevel 5 1\nstate 0 4 4:4 5:5 | |\nedge 0 4 4 4 0\nedge 1 3 4 4 0\njob 0 3 4 ok\njob 1 3 4 ok\njob 2 1 1 ok\njob 3 4 5 ok\njob 4 4 5 ok\nverdict ok\nend\n"
unfolding digits level_at next_level edges_up_to spans_by
merging_text = refl
