use Rattle.std.proofs.Common.{◌≡◌, ℕ, length, take, sym, ap, subst, ◌∙◌, arith}
use Rattle.stream.specs.Streams.{Stream}
use Rattle.run.specs.Coming.{to_come}
use Rattle.run.specs.Reading.{after}
use Rattle.level.specs.declared.walk.Walk.{Walk}
use Rattle.level.proofs.Blocks.{some_given, given_after}
use Rattle.level.proofs.Stands.{Stands, block_next, stop_is, next_there, stands_taken, stands_more}
use Rattle.level.proofs.block.rep_course.Goals as goal

pub returns-then-walk : goal.returns-then-walk
returns-then-walk c =
    let a = c.args.asked in
    let w : Walk = c.walks.walk in
    let s : Stream = to_come c.args.reader in
    let u : Stream = to_come c.walks.ahead in
    let r = c.behind-rest.ensures in
    let n = block_next a w u c.walks.invariant.levels c.behind-rest.result r.opened r.records r.levels c.if-rest-eq0.false c.walk.result c.in_ok-k.k c.min-size.result c.walks.block c.read_some.new.out (omega arith) c.in_ok-k.ensures.reply c.in_ok-k.ensures.filled c.walk.ensures.is in
    record {
      is = stop_is a s w u c.walks.invariant c.in_ok-k.k c.walk.result n c.course-then-walk.result c.then-walk.result c.course-then-walk.ensures c.then-walk.ensures c.if-walk.true;
      there = omega (arith, next_there a s w u c.walks.invariant c.in_ok-k.k c.walk.result n, ap (λ x. x.taken) c.course-then-walk.ensures, ap (λ x. x.taken) c.then-walk.ensures);
    }

pub walks-smaller : goal.walks-smaller
walks-smaller c =
    let a = c.args.asked in
    let w : Walk = c.walks.walk in
    let s : Stream = to_come c.args.reader in
    let u : Stream = to_come c.walks.ahead in
    let r = c.behind-rest.ensures in
    let n = block_next a w u c.walks.invariant.levels c.behind-rest.result r.opened r.records r.levels c.if-rest-eq0.false c.walk.result c.in_ok-k.k c.min-size.result c.walks.block c.read_some.new.out (omega arith) c.in_ok-k.ensures.reply c.in_ok-k.ensures.filled c.walk.ensures.is in
    let t = stands_taken a s w u c.walks.invariant c.in_ok-k.k c.walk.result n (sym (ap (λ x. x.stopped) c.then-walk.ensures) ∙ c.if-walk.false) in
    omega (arith, t, n.some, ap (λ x. x.taken) c.then-walk.ensures, c.if-k-eq0.false)

pub walks-preserved : goal.walks-preserved
walks-preserved c =
    let a = c.args.asked in
    let w : Walk = c.walks.walk in
    let s : Stream = to_come c.args.reader in
    let u : Stream = to_come c.walks.ahead in
    let v : Stream = to_come c.read_some.new.self in
    let k : ℕ = c.in_ok-k.k in
    let o = take c.min-size.result c.walks.block in
    let r = c.behind-rest.ensures in
    let n = block_next a w u c.walks.invariant.levels c.behind-rest.result r.opened r.records r.levels c.if-rest-eq0.false c.walk.result k c.min-size.result c.walks.block c.read_some.new.out (omega arith) c.in_ok-k.ensures.reply c.in_ok-k.ensures.filled c.walk.ensures.is in
    let d : v ≡ after k u = c.in_ok-k.ensures.rest ∙ (given_after (length o) u ∙ ap (λ (j : ℕ). after j u) (sym (some_given (length o) u k c.in_ok-k.ensures.reply))) in
    subst (λ (x : Walk). Stands a s x v) (sym c.then-walk.ensures) (stands_more a s w u c.walks.invariant k c.walk.result n v (sym (ap (λ x. x.stopped) c.then-walk.ensures) ∙ c.if-walk.false) d)
