-- Scenarios computed from the definitions, beside those that are expected.
use Rattle.std.proofs.Common.{◌≡◌, [], ◌∷◌, refl}
use Rattle.job_model.specs.Table.{Table, table_of}
use Rattle.job_model.proofs.Tables.{job, table_a}
use Rattle.sag_graph.specs.Graph.{graph_of}
use Rattle.sag_graph.specs.Levels.{level_at, next_level}
use Rattle.sag_graph.specs.Spans.{edges_up_to, spans_by}
use Rattle.job_model.specs.declared.interval_end.End.TheVariants.{Best, Worst}
use Rattle.one_core.specs.Extreme.{extreme}

-- the less urgent job blocks
a_worst : extreme table_a (graph_of table_a 1) 0 Worst ≡ (1, 2) ∷ (0, 3) ∷ []
unfolding level_at next_level edges_up_to spans_by
a_worst = refl

a_best : extreme table_a (graph_of table_a 1) 0 Best ≡ (0, 1) ∷ (0, 3) ∷ []
unfolding level_at next_level edges_up_to spans_by
a_best = refl

abbrev table_0 : Table
table_0 = table_of (job 3 1 0 0 4 5 14 2 ∷ job 1 1 1 3 2 3 5 1 ∷ job 5 1 0 0 2 2 17 0 ∷ job 2 1 0 1 2 3 18 0 ∷ job 4 1 0 0 2 6 8 0 ∷ [])

row_0 : extreme table_0 (graph_of table_0 1) 0 Best ≡ (0, 4) ∷ (3, 2) ∷ (0, 2) ∷ (0, 2) ∷ (0, 2) ∷ []
unfolding level_at next_level edges_up_to spans_by
row_0 = refl

abbrev table_1 : Table
table_1 = table_of (job 1 2 3 5 1 3 13 2 ∷ job 3 2 0 3 1 2 1 1 ∷ job 2 2 0 0 3 5 8 2 ∷ [])

row_1 : extreme table_1 (graph_of table_1 1) 0 Best ≡ (4, 1) ∷ (0, 1) ∷ (0, 3) ∷ []
unfolding level_at next_level edges_up_to spans_by
row_1 = refl

abbrev table_2 : Table
table_2 = table_of (job 2 3 10 13 1 2 16 2 ∷ job 2 1 15 18 3 6 8 0 ∷ job 3 2 18 20 3 5 11 0 ∷ job 2 2 9 9 2 5 20 1 ∷ job 1 2 13 15 4 4 12 0 ∷ [])

row_2 : extreme table_2 (graph_of table_2 1) 2 Best ≡ (13, 2) ∷ (17, 3) ∷ (20, 3) ∷ (9, 4) ∷ (13, 4) ∷ []
unfolding level_at next_level edges_up_to spans_by
row_2 = refl

abbrev table_3 : Table
table_3 = table_of (job 2 1 0 2 2 3 18 2 ∷ job 4 1 0 2 3 4 12 0 ∷ job 3 1 4 4 4 5 15 2 ∷ job 1 1 2 2 3 7 20 2 ∷ [])

row_3 : extreme table_3 (graph_of table_3 1) 2 Best ≡ (0, 2) ∷ (2, 3) ∷ (4, 4) ∷ (2, 3) ∷ []
unfolding level_at next_level edges_up_to spans_by
row_3 = refl

abbrev table_4 : Table
table_4 = table_of (job 4 1 0 2 4 4 11 1 ∷ job 3 1 0 2 2 2 8 0 ∷ job 2 1 2 4 3 4 13 0 ∷ job 1 1 0 0 4 8 11 1 ∷ job 5 1 4 5 1 5 11 2 ∷ [])

row_4 : extreme table_4 (graph_of table_4 1) 4 Best ≡ (2, 4) ∷ (0, 2) ∷ (2, 3) ∷ (0, 4) ∷ (5, 1) ∷ []
unfolding level_at next_level edges_up_to spans_by
row_4 = refl

abbrev table_5 : Table
table_5 = table_of (job 3 1 4 4 4 5 16 2 ∷ job 1 1 0 2 4 5 13 1 ∷ job 4 1 2 2 4 4 15 2 ∷ job 2 1 0 1 4 5 11 1 ∷ [])

row_5 : extreme table_5 (graph_of table_5 1) 0 Best ≡ (4, 4) ∷ (0, 4) ∷ (2, 4) ∷ (1, 4) ∷ []
unfolding level_at next_level edges_up_to spans_by
row_5 = refl

abbrev table_6 : Table
table_6 = table_of (job 3 1 12 15 1 1 2 0 ∷ job 3 3 12 13 4 7 12 2 ∷ job 2 2 17 20 1 4 8 1 ∷ job 1 2 3 5 1 1 2 1 ∷ job 2 3 14 15 4 6 9 1 ∷ [])

row_6 : extreme table_6 (graph_of table_6 1) 2 Best ≡ (12, 1) ∷ (13, 4) ∷ (17, 1) ∷ (5, 1) ∷ (15, 6) ∷ []
unfolding level_at next_level edges_up_to spans_by
row_6 = refl

abbrev table_7 : Table
table_7 = table_of (job 2 1 4 4 1 5 15 2 ∷ job 5 1 1 1 3 4 19 0 ∷ job 1 1 1 2 4 4 12 1 ∷ job 3 1 0 2 3 4 13 0 ∷ job 4 1 0 2 2 2 16 2 ∷ [])

row_7 : extreme table_7 (graph_of table_7 1) 0 Best ≡ (4, 1) ∷ (1, 3) ∷ (2, 4) ∷ (0, 3) ∷ (2, 2) ∷ []
unfolding level_at next_level edges_up_to spans_by
row_7 = refl

abbrev table_8 : Table
table_8 = table_of (job 2 3 1 4 1 3 3 0 ∷ job 1 2 1 1 2 3 12 2 ∷ job 2 1 2 4 4 5 9 1 ∷ [])

row_8 : extreme table_8 (graph_of table_8 1) 2 Best ≡ (1, 1) ∷ (1, 3) ∷ (2, 4) ∷ []
unfolding level_at next_level edges_up_to spans_by
row_8 = refl

abbrev table_9 : Table
table_9 = table_of (job 2 3 12 14 1 4 19 1 ∷ job 3 3 1 3 3 6 5 2 ∷ job 2 2 9 12 1 4 11 0 ∷ job 1 3 11 13 2 4 11 2 ∷ job 2 1 5 7 2 4 4 1 ∷ [])

row_9 : extreme table_9 (graph_of table_9 1) 3 Best ≡ (14, 4) ∷ (3, 6) ∷ (12, 4) ∷ (11, 2) ∷ (7, 2) ∷ []
unfolding level_at next_level edges_up_to spans_by
row_9 = refl
