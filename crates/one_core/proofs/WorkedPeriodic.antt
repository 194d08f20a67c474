-- Both ends of each job of three periodic tasks, computed from the definition, beside an independent implementation's.
use Rattle.std.proofs.Common.{◌≡◌, [], ◌∷◌, refl}
use Rattle.job_model.specs.Table.{Table, table_of}
use Rattle.job_model.proofs.Tables.{job}
use Rattle.sag_graph.specs.Graph.{graph_of}
use Rattle.sag_graph.specs.Levels.{level_at, next_level}
use Rattle.sag_graph.specs.Spans.{edges_up_to, spans_by}
use Rattle.job_model.specs.declared.interval_end.End.TheVariants.{Best, Worst}
use Rattle.one_core.specs.Extreme.{extreme}

-- three periodic tasks over one hyperperiod
abbrev periodic : Table
periodic = table_of (job 1 1 0 1 1 2 10 10 ∷ job 1 2 10 11 1 2 20 10 ∷ job 1 3 20 21 1 2 30 10 ∷ job 1 4 30 31 1 2 40 10 ∷ job 1 5 40 41 1 2 50 10 ∷ job 1 6 50 51 1 2 60 10 ∷ job 1 7 60 61 1 2 70 10 ∷ job 1 8 70 71 1 2 80 10 ∷ job 1 9 80 81 1 2 90 10 ∷ job 1 10 90 91 1 2 100 10 ∷ job 2 1 0 0 2 4 20 20 ∷ job 2 2 20 20 2 4 40 20 ∷ job 2 3 40 40 2 4 60 20 ∷ job 2 4 60 60 2 4 80 20 ∷ job 2 5 80 80 2 4 100 20 ∷ job 3 1 0 0 4 6 50 50 ∷ job 3 2 50 50 4 6 100 50 ∷ [])

r_0_best : extreme periodic (graph_of periodic 1) 0 Best ≡ (0, 1) ∷ (11, 2) ∷ (21, 2) ∷ (31, 2) ∷ (41, 2) ∷ (51, 2) ∷ (61, 2) ∷ (71, 2) ∷ (81, 2) ∷ (91, 2) ∷ (0, 4) ∷ (20, 4) ∷ (40, 4) ∷ (60, 4) ∷ (80, 4) ∷ (0, 6) ∷ (50, 6) ∷ []
unfolding level_at next_level edges_up_to spans_by
r_0_best = refl

r_0_worst : extreme periodic (graph_of periodic 1) 0 Worst ≡ (1, 2) ∷ (11, 2) ∷ (21, 2) ∷ (31, 2) ∷ (41, 2) ∷ (51, 2) ∷ (61, 2) ∷ (71, 2) ∷ (81, 2) ∷ (91, 2) ∷ (0, 4) ∷ (20, 4) ∷ (40, 4) ∷ (60, 4) ∷ (80, 4) ∷ (0, 6) ∷ (50, 6) ∷ []
unfolding level_at next_level edges_up_to spans_by
r_0_worst = refl

r_1_best : extreme periodic (graph_of periodic 1) 1 Best ≡ (0, 2) ∷ (10, 1) ∷ (21, 2) ∷ (31, 2) ∷ (41, 2) ∷ (51, 2) ∷ (61, 2) ∷ (71, 2) ∷ (81, 2) ∷ (91, 2) ∷ (0, 4) ∷ (20, 4) ∷ (40, 4) ∷ (60, 4) ∷ (80, 4) ∷ (0, 4) ∷ (50, 6) ∷ []
unfolding level_at next_level edges_up_to spans_by
r_1_best = refl

r_1_worst : extreme periodic (graph_of periodic 1) 1 Worst ≡ (0, 2) ∷ (11, 2) ∷ (21, 2) ∷ (31, 2) ∷ (41, 2) ∷ (51, 2) ∷ (61, 2) ∷ (71, 2) ∷ (81, 2) ∷ (91, 2) ∷ (0, 4) ∷ (20, 4) ∷ (40, 4) ∷ (60, 4) ∷ (80, 4) ∷ (0, 6) ∷ (50, 6) ∷ []
unfolding level_at next_level edges_up_to spans_by
r_1_worst = refl

r_2_best : extreme periodic (graph_of periodic 1) 2 Best ≡ (0, 2) ∷ (11, 2) ∷ (20, 1) ∷ (31, 2) ∷ (41, 2) ∷ (51, 2) ∷ (61, 2) ∷ (71, 2) ∷ (81, 2) ∷ (91, 2) ∷ (0, 4) ∷ (20, 4) ∷ (40, 4) ∷ (60, 4) ∷ (80, 4) ∷ (0, 6) ∷ (50, 6) ∷ []
unfolding level_at next_level edges_up_to spans_by
r_2_best = refl

r_2_worst : extreme periodic (graph_of periodic 1) 2 Worst ≡ (0, 2) ∷ (11, 2) ∷ (21, 2) ∷ (31, 2) ∷ (41, 2) ∷ (51, 2) ∷ (61, 2) ∷ (71, 2) ∷ (81, 2) ∷ (91, 2) ∷ (0, 4) ∷ (20, 4) ∷ (40, 4) ∷ (60, 4) ∷ (80, 4) ∷ (0, 6) ∷ (50, 6) ∷ []
unfolding level_at next_level edges_up_to spans_by
r_2_worst = refl

r_3_best : extreme periodic (graph_of periodic 1) 3 Best ≡ (0, 2) ∷ (11, 2) ∷ (20, 2) ∷ (30, 1) ∷ (41, 2) ∷ (51, 2) ∷ (61, 2) ∷ (71, 2) ∷ (81, 2) ∷ (91, 2) ∷ (0, 4) ∷ (20, 4) ∷ (40, 4) ∷ (60, 4) ∷ (80, 4) ∷ (0, 6) ∷ (50, 6) ∷ []
unfolding level_at next_level edges_up_to spans_by
r_3_best = refl

r_3_worst : extreme periodic (graph_of periodic 1) 3 Worst ≡ (0, 2) ∷ (11, 2) ∷ (20, 2) ∷ (31, 2) ∷ (41, 2) ∷ (51, 2) ∷ (61, 2) ∷ (71, 2) ∷ (81, 2) ∷ (91, 2) ∷ (0, 4) ∷ (20, 4) ∷ (40, 4) ∷ (60, 4) ∷ (80, 4) ∷ (0, 6) ∷ (50, 6) ∷ []
unfolding level_at next_level edges_up_to spans_by
r_3_worst = refl

r_4_best : extreme periodic (graph_of periodic 1) 4 Best ≡ (0, 2) ∷ (11, 2) ∷ (20, 2) ∷ (31, 2) ∷ (40, 1) ∷ (51, 2) ∷ (61, 2) ∷ (71, 2) ∷ (81, 2) ∷ (91, 2) ∷ (0, 4) ∷ (20, 4) ∷ (40, 4) ∷ (60, 4) ∷ (80, 4) ∷ (0, 6) ∷ (50, 6) ∷ []
unfolding level_at next_level edges_up_to spans_by
r_4_best = refl

r_4_worst : extreme periodic (graph_of periodic 1) 4 Worst ≡ (0, 2) ∷ (11, 2) ∷ (20, 2) ∷ (31, 2) ∷ (41, 2) ∷ (51, 2) ∷ (61, 2) ∷ (71, 2) ∷ (81, 2) ∷ (91, 2) ∷ (0, 4) ∷ (20, 4) ∷ (40, 4) ∷ (60, 4) ∷ (80, 4) ∷ (0, 6) ∷ (50, 6) ∷ []
unfolding level_at next_level edges_up_to spans_by
r_4_worst = refl

r_5_best : extreme periodic (graph_of periodic 1) 5 Best ≡ (0, 2) ∷ (11, 2) ∷ (20, 2) ∷ (31, 2) ∷ (40, 2) ∷ (50, 1) ∷ (61, 2) ∷ (71, 2) ∷ (81, 2) ∷ (91, 2) ∷ (0, 4) ∷ (20, 4) ∷ (40, 4) ∷ (60, 4) ∷ (80, 4) ∷ (0, 6) ∷ (50, 6) ∷ []
unfolding level_at next_level edges_up_to spans_by
r_5_best = refl

r_5_worst : extreme periodic (graph_of periodic 1) 5 Worst ≡ (0, 2) ∷ (11, 2) ∷ (20, 2) ∷ (31, 2) ∷ (40, 2) ∷ (51, 2) ∷ (61, 2) ∷ (71, 2) ∷ (81, 2) ∷ (91, 2) ∷ (0, 4) ∷ (20, 4) ∷ (40, 4) ∷ (60, 4) ∷ (80, 4) ∷ (0, 6) ∷ (50, 6) ∷ []
unfolding level_at next_level edges_up_to spans_by
r_5_worst = refl

r_6_best : extreme periodic (graph_of periodic 1) 6 Best ≡ (0, 2) ∷ (11, 2) ∷ (20, 2) ∷ (31, 2) ∷ (40, 2) ∷ (50, 2) ∷ (60, 1) ∷ (71, 2) ∷ (81, 2) ∷ (91, 2) ∷ (0, 4) ∷ (20, 4) ∷ (40, 4) ∷ (60, 4) ∷ (80, 4) ∷ (0, 6) ∷ (50, 6) ∷ []
unfolding level_at next_level edges_up_to spans_by
r_6_best = refl

r_6_worst : extreme periodic (graph_of periodic 1) 6 Worst ≡ (0, 2) ∷ (11, 2) ∷ (20, 2) ∷ (31, 2) ∷ (40, 2) ∷ (50, 2) ∷ (61, 2) ∷ (71, 2) ∷ (81, 2) ∷ (91, 2) ∷ (0, 4) ∷ (20, 4) ∷ (40, 4) ∷ (60, 4) ∷ (80, 4) ∷ (0, 6) ∷ (50, 6) ∷ []
unfolding level_at next_level edges_up_to spans_by
r_6_worst = refl

r_7_best : extreme periodic (graph_of periodic 1) 7 Best ≡ (0, 2) ∷ (11, 2) ∷ (20, 2) ∷ (31, 2) ∷ (40, 2) ∷ (50, 2) ∷ (60, 2) ∷ (70, 1) ∷ (81, 2) ∷ (91, 2) ∷ (0, 4) ∷ (20, 4) ∷ (40, 4) ∷ (60, 4) ∷ (80, 4) ∷ (0, 6) ∷ (50, 6) ∷ []
unfolding level_at next_level edges_up_to spans_by
r_7_best = refl

r_7_worst : extreme periodic (graph_of periodic 1) 7 Worst ≡ (0, 2) ∷ (11, 2) ∷ (20, 2) ∷ (31, 2) ∷ (40, 2) ∷ (50, 2) ∷ (60, 2) ∷ (71, 2) ∷ (81, 2) ∷ (91, 2) ∷ (0, 4) ∷ (20, 4) ∷ (40, 4) ∷ (60, 4) ∷ (80, 4) ∷ (0, 6) ∷ (50, 6) ∷ []
unfolding level_at next_level edges_up_to spans_by
r_7_worst = refl

r_8_best : extreme periodic (graph_of periodic 1) 8 Best ≡ (0, 2) ∷ (11, 2) ∷ (20, 2) ∷ (31, 2) ∷ (40, 2) ∷ (50, 2) ∷ (60, 2) ∷ (71, 2) ∷ (80, 1) ∷ (91, 2) ∷ (0, 4) ∷ (20, 4) ∷ (40, 4) ∷ (60, 4) ∷ (80, 4) ∷ (0, 6) ∷ (50, 6) ∷ []
unfolding level_at next_level edges_up_to spans_by
r_8_best = refl

r_8_worst : extreme periodic (graph_of periodic 1) 8 Worst ≡ (0, 2) ∷ (11, 2) ∷ (20, 2) ∷ (31, 2) ∷ (40, 2) ∷ (50, 2) ∷ (60, 2) ∷ (71, 2) ∷ (81, 2) ∷ (91, 2) ∷ (0, 4) ∷ (20, 4) ∷ (40, 4) ∷ (60, 4) ∷ (80, 4) ∷ (0, 6) ∷ (50, 6) ∷ []
unfolding level_at next_level edges_up_to spans_by
r_8_worst = refl

r_9_best : extreme periodic (graph_of periodic 1) 9 Best ≡ (0, 2) ∷ (11, 2) ∷ (20, 2) ∷ (31, 2) ∷ (40, 2) ∷ (50, 2) ∷ (60, 2) ∷ (71, 2) ∷ (80, 2) ∷ (90, 1) ∷ (0, 4) ∷ (20, 4) ∷ (40, 4) ∷ (60, 4) ∷ (80, 4) ∷ (0, 6) ∷ (50, 6) ∷ []
unfolding level_at next_level edges_up_to spans_by
r_9_best = refl

r_9_worst : extreme periodic (graph_of periodic 1) 9 Worst ≡ (0, 2) ∷ (11, 2) ∷ (20, 2) ∷ (31, 2) ∷ (40, 2) ∷ (50, 2) ∷ (60, 2) ∷ (71, 2) ∷ (80, 2) ∷ (91, 2) ∷ (0, 4) ∷ (20, 4) ∷ (40, 4) ∷ (60, 4) ∷ (80, 4) ∷ (0, 6) ∷ (50, 6) ∷ []
unfolding level_at next_level edges_up_to spans_by
r_9_worst = refl

r_10_best : extreme periodic (graph_of periodic 1) 10 Best ≡ (1, 2) ∷ (11, 2) ∷ (21, 2) ∷ (31, 2) ∷ (41, 2) ∷ (51, 2) ∷ (61, 2) ∷ (71, 2) ∷ (81, 2) ∷ (91, 2) ∷ (0, 2) ∷ (20, 4) ∷ (40, 4) ∷ (60, 4) ∷ (80, 4) ∷ (0, 6) ∷ (50, 6) ∷ []
unfolding level_at next_level edges_up_to spans_by
r_10_best = refl

r_10_worst : extreme periodic (graph_of periodic 1) 10 Worst ≡ (0, 2) ∷ (11, 2) ∷ (21, 2) ∷ (31, 2) ∷ (41, 2) ∷ (51, 2) ∷ (61, 2) ∷ (71, 2) ∷ (81, 2) ∷ (91, 2) ∷ (0, 4) ∷ (20, 4) ∷ (40, 4) ∷ (60, 4) ∷ (80, 4) ∷ (0, 6) ∷ (50, 6) ∷ []
unfolding level_at next_level edges_up_to spans_by
r_10_worst = refl

r_11_best : extreme periodic (graph_of periodic 1) 11 Best ≡ (0, 2) ∷ (11, 2) ∷ (21, 2) ∷ (31, 2) ∷ (41, 2) ∷ (51, 2) ∷ (61, 2) ∷ (71, 2) ∷ (81, 2) ∷ (91, 2) ∷ (0, 4) ∷ (20, 2) ∷ (40, 4) ∷ (60, 4) ∷ (80, 4) ∷ (0, 6) ∷ (50, 6) ∷ []
unfolding level_at next_level edges_up_to spans_by
r_11_best = refl

r_11_worst : extreme periodic (graph_of periodic 1) 11 Worst ≡ (0, 2) ∷ (11, 2) ∷ (20, 2) ∷ (31, 2) ∷ (41, 2) ∷ (51, 2) ∷ (61, 2) ∷ (71, 2) ∷ (81, 2) ∷ (91, 2) ∷ (0, 4) ∷ (20, 4) ∷ (40, 4) ∷ (60, 4) ∷ (80, 4) ∷ (0, 6) ∷ (50, 6) ∷ []
unfolding level_at next_level edges_up_to spans_by
r_11_worst = refl

r_12_best : extreme periodic (graph_of periodic 1) 12 Best ≡ (0, 2) ∷ (11, 2) ∷ (20, 2) ∷ (31, 2) ∷ (41, 2) ∷ (51, 2) ∷ (61, 2) ∷ (71, 2) ∷ (81, 2) ∷ (91, 2) ∷ (0, 4) ∷ (20, 4) ∷ (40, 2) ∷ (60, 4) ∷ (80, 4) ∷ (0, 6) ∷ (50, 6) ∷ []
unfolding level_at next_level edges_up_to spans_by
r_12_best = refl

r_12_worst : extreme periodic (graph_of periodic 1) 12 Worst ≡ (0, 2) ∷ (11, 2) ∷ (20, 2) ∷ (31, 2) ∷ (40, 2) ∷ (51, 2) ∷ (61, 2) ∷ (71, 2) ∷ (81, 2) ∷ (91, 2) ∷ (0, 4) ∷ (20, 4) ∷ (40, 4) ∷ (60, 4) ∷ (80, 4) ∷ (0, 6) ∷ (50, 6) ∷ []
unfolding level_at next_level edges_up_to spans_by
r_12_worst = refl

r_13_best : extreme periodic (graph_of periodic 1) 13 Best ≡ (0, 2) ∷ (11, 2) ∷ (20, 2) ∷ (31, 2) ∷ (40, 2) ∷ (50, 2) ∷ (61, 2) ∷ (71, 2) ∷ (81, 2) ∷ (91, 2) ∷ (0, 4) ∷ (20, 4) ∷ (40, 4) ∷ (60, 2) ∷ (80, 4) ∷ (0, 6) ∷ (50, 6) ∷ []
unfolding level_at next_level edges_up_to spans_by
r_13_best = refl

r_13_worst : extreme periodic (graph_of periodic 1) 13 Worst ≡ (0, 2) ∷ (11, 2) ∷ (20, 2) ∷ (31, 2) ∷ (40, 2) ∷ (50, 2) ∷ (60, 2) ∷ (71, 2) ∷ (81, 2) ∷ (91, 2) ∷ (0, 4) ∷ (20, 4) ∷ (40, 4) ∷ (60, 4) ∷ (80, 4) ∷ (0, 6) ∷ (50, 6) ∷ []
unfolding level_at next_level edges_up_to spans_by
r_13_worst = refl

r_14_best : extreme periodic (graph_of periodic 1) 14 Best ≡ (0, 2) ∷ (11, 2) ∷ (20, 2) ∷ (31, 2) ∷ (40, 2) ∷ (50, 2) ∷ (60, 2) ∷ (71, 2) ∷ (81, 2) ∷ (91, 2) ∷ (0, 4) ∷ (20, 4) ∷ (40, 4) ∷ (60, 4) ∷ (80, 2) ∷ (0, 6) ∷ (50, 6) ∷ []
unfolding level_at next_level edges_up_to spans_by
r_14_best = refl

r_14_worst : extreme periodic (graph_of periodic 1) 14 Worst ≡ (0, 2) ∷ (11, 2) ∷ (20, 2) ∷ (31, 2) ∷ (40, 2) ∷ (50, 2) ∷ (60, 2) ∷ (71, 2) ∷ (80, 2) ∷ (91, 2) ∷ (0, 4) ∷ (20, 4) ∷ (40, 4) ∷ (60, 4) ∷ (80, 4) ∷ (0, 6) ∷ (50, 6) ∷ []
unfolding level_at next_level edges_up_to spans_by
r_14_worst = refl

r_15_best : extreme periodic (graph_of periodic 1) 15 Best ≡ (0, 1) ∷ (11, 2) ∷ (21, 2) ∷ (31, 2) ∷ (41, 2) ∷ (51, 2) ∷ (61, 2) ∷ (71, 2) ∷ (81, 2) ∷ (91, 2) ∷ (0, 2) ∷ (20, 4) ∷ (40, 4) ∷ (60, 4) ∷ (80, 4) ∷ (0, 4) ∷ (50, 6) ∷ []
unfolding level_at next_level edges_up_to spans_by
r_15_best = refl

r_15_worst : extreme periodic (graph_of periodic 1) 15 Worst ≡ (0, 2) ∷ (11, 2) ∷ (21, 2) ∷ (31, 2) ∷ (41, 2) ∷ (51, 2) ∷ (61, 2) ∷ (71, 2) ∷ (81, 2) ∷ (91, 2) ∷ (0, 4) ∷ (20, 4) ∷ (40, 4) ∷ (60, 4) ∷ (80, 4) ∷ (0, 6) ∷ (50, 6) ∷ []
unfolding level_at next_level edges_up_to spans_by
r_15_worst = refl

r_16_best : extreme periodic (graph_of periodic 1) 16 Best ≡ (0, 2) ∷ (11, 2) ∷ (20, 2) ∷ (31, 2) ∷ (40, 2) ∷ (51, 2) ∷ (61, 2) ∷ (71, 2) ∷ (81, 2) ∷ (91, 2) ∷ (0, 4) ∷ (20, 4) ∷ (40, 4) ∷ (60, 4) ∷ (80, 4) ∷ (0, 6) ∷ (50, 4) ∷ []
unfolding level_at next_level edges_up_to spans_by
r_16_best = refl

r_16_worst : extreme periodic (graph_of periodic 1) 16 Worst ≡ (0, 2) ∷ (11, 2) ∷ (20, 2) ∷ (31, 2) ∷ (40, 2) ∷ (50, 2) ∷ (61, 2) ∷ (71, 2) ∷ (81, 2) ∷ (91, 2) ∷ (0, 4) ∷ (20, 4) ∷ (40, 4) ∷ (60, 4) ∷ (80, 4) ∷ (0, 6) ∷ (50, 6) ∷ []
unfolding level_at next_level edges_up_to spans_by
r_16_worst = refl
