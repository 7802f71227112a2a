-- The rest of the messages decides whether all are passed, and the flags say what stands among those seen so far, if they are of the first.
use Rattle.std.proofs.Common.{◌≡◌, drop, min}
use Rattle.messages.specs.Tests.{all}
use Rattle.record.specs.Table.{messages}
use Rattle.look.specs.Looked.{passed, seen_of}
use Rattle.look.proofs.look.look.Given as goal

abbrev pub invariant-loop-i : goal.invariant-loop-i
invariant-loop-i l =
    record {
      rest : all (passed l.trusted) (drop l.i (messages l.n l.t)) ≡ all (passed l.trusted) (messages l.n l.t);
      seen : l.seen ≡ seen_of l.wanted (messages (min l.i l.earlier) l.t);
    }
