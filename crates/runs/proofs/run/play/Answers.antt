-- `runs::run::play` meets its promise.
use Rattle.std.proofs.Common.{◌≡◌, ◌∙◌, ◌+◌, ◌*◌, ◌++◌, ◌/◌, ◌<◌, ◌≤◌, ℕ, ap, drop, length, rules, set, sym, subst, MatchResult}
use Rattle.std.specs.Iterator.Adapters.{enumerate_count, enumerate_source}
use Rattle.std.specs.Slice.Iter.{chunks_exact_rest, chunks_exact_size}
use Rattle.messages.specs.Layout.{message_width}
use Rattle.record.specs.Table.{messages, room_of}
use Rattle.rules.proofs.Accepted.{never_zero}
use Rattle.rules.specs.Run.{step_width}
use Rattle.rules.specs.Step.{judge}
use Rattle.runs.proofs.Played.{Going, comes, ends, is_step, one_played, over_and_done, rest_after, turn, whole_kept}
use Rattle.runs.proofs.run.play.Goals as goal

pub judge_step-answer-requires : goal.judge_step-answer-requires
judge_step-answer-requires c =
    let long : length c.in-Some.s.now ≡ step_width = search rules in
    let going = c.loop-i.invariant.going in (
      whole_kept c.args.t.now c.loop-i.t going.long c.requires.0,
      subst (λ (l : ℕ). c.loop-i.n ≤ l / message_width) (sym going.long) going.room,
      long,
    )

pub loop-i-preserved : goal.loop-i-preserved
loop-i-preserved c =
    let xs = c.args.steps.now in
    let it = c.loop-i.i-iterator in
    let it' = c.next.new.self in
    let i = c.in-Some.i in
    let s = c.in-Some.s.now in
    let r = c.judge_step-answer.result in
    let counts : i ≡ enumerate_count it = search rules in
    let count : enumerate_count it' ≡ i + 1 = search rules in
    let size : chunks_exact_size (enumerate_source it') ≡ step_width = search rules in
    let long : length s ≡ step_width = search rules in
    let split : chunks_exact_rest (enumerate_source it) ≡ s ++ chunks_exact_rest (enumerate_source it') = search rules in
    let cut : drop (i * step_width) xs ≡ s ++ chunks_exact_rest (enumerate_source it') =
    ap (λ k. drop (k * step_width) xs) counts ∙ sym c.loop-i.invariant.rest ∙ split in
    let more = comes xs s (chunks_exact_rest (enumerate_source it')) i cut long in
    let kept : MatchResult r (λ p. c.map_or-n.result ≡ p.0) (λ e. c.map_or-n.result ≡ c.loop-i.n) = search rules in
    let going : Going c.args.answers c.args.t.now xs c.args.verdicts.now c.loop-i.t c.loop-i.verdicts c.loop-i.n i =
    subst (λ k. Going c.args.answers c.args.t.now xs c.args.verdicts.now c.loop-i.t c.loop-i.verdicts c.loop-i.n k) (sym counts) c.loop-i.invariant.going in
    record {
      can_next = search rules;
      is_finite = search rules;
      size = size;
      rest = rest_after xs s (chunks_exact_rest (enumerate_source it')) i cut long ∙ ap (λ k. drop (k * step_width) xs) (sym count);
      going = subst (λ k. Going c.args.answers c.args.t.now xs c.args.verdicts.now c.judge_step-answer.new.t (set c.loop-i.verdicts i c.verdict.result) c.map_or-n.result k) (sym count)
          (turn c.args.answers c.args.t.now xs c.args.verdicts.now c.loop-i.t c.loop-i.verdicts c.loop-i.n i going more c.requires.1 s
          (is_step xs s (chunks_exact_rest (enumerate_source it')) i more cut long) c.verdict.result c.map_or-n.result c.judge_step-answer.new.t
          c.judge_step-answer.auto.t
          (one_played c.loop-i.n c.loop-i.t (judge c.args.answers (room_of c.loop-i.t) (messages c.loop-i.n c.loop-i.t) s) r c.verdict.result
          c.map_or-n.result c.judge_step-answer.new.t
          (never_zero c.args.answers (room_of c.loop-i.t) (messages c.loop-i.n c.loop-i.t) s) c.judge_step-answer.ensures c.verdict.ensures kept));
    }

pub returns : goal.returns
returns c =
    let xs = c.args.steps.now in
    let it = c.loop-i.i-iterator in
    let short : length (chunks_exact_rest (enumerate_source it)) < step_width = search rules in
    let over = ends xs (enumerate_count it) c.loop-i.invariant.going.upto (subst (λ zs. length zs < step_width) c.loop-i.invariant.rest short) in
    over_and_done c.args.answers c.args.t.now xs c.args.verdicts.now c.loop-i.t c.loop-i.verdicts c.loop-i.n (enumerate_count it)
    c.loop-i.invariant.going over
