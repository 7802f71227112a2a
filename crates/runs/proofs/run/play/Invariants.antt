-- What stands after the first steps is what a run of them leaves, and the chunks to come are the steps to come.
use Rattle.std.proofs.Common.{◌≡◌, ◌*◌, drop}
use Rattle.std.specs.Iterator.Adapters.{enumerate_count, enumerate_source}
use Rattle.std.specs.Slice.Iter.{chunks_exact_rest, chunks_exact_size}
use Rattle.rules.specs.Run.{step_width}
use Rattle.runs.proofs.Played.{Going}
use Rattle.runs.proofs.run.play.Given as goal

abbrev pub invariant-loop-i : goal.invariant-loop-i
invariant-loop-i l =
    record {
      can_next : (goal.iterator-loop-i).can_next l.i-iterator;
      is_finite : (goal.iterator-loop-i).is_finite l.i-iterator;
      size : chunks_exact_size (enumerate_source l.i-iterator) ≡ step_width;
      rest : chunks_exact_rest (enumerate_source l.i-iterator) ≡ drop (enumerate_count l.i-iterator * step_width) l.steps;
      going : Going l.answers l.initial.t l.steps l.initial.verdicts l.t l.verdicts l.n (enumerate_count l.i-iterator);
    }
