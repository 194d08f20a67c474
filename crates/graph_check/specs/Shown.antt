-- What a reader of lines is seen as.
--     held_progress progress        the progress that its fields hold
use Rattle.graph_check.specs.declared.progress.Progress.TheInside.{Inside}
use Rattle.graph_check.specs.Turns.{level_states}
use Rattle.graph_check.specs.Comings.{HeldProgress}
use Rattle.graph_check.specs.Told.{entries_of}

-- the progress that the fields hold
abbrev pub held_progress : Inside → HeldProgress
held_progress p = record {
  table = p.walk.table;
  cores = p.walk.cores;
  progress = record {
    lines = p.lines;
    due = p.due;
    level = p.level;
    count = p.count;
    before = p.walk.level;
    states = level_states p.states.items;
    edges = p.walk.passed;
    hulls = p.hulls;
    jobs = entries_of p.jobs.spans.items p.jobs.marks.items;
  };
}
