use Rattle.std.proofs.Common.{◌≡◌, ℕ, ◌+◌, min, map, take, pos, sym, ap, subst, ◌∙◌, arith}
use Rattle.stream.specs.Streams.{Stream}
use Rattle.run.specs.Reading.{after}
use Rattle.area.specs.Areas.{room, appended}
use Rattle.level.specs.Levels.{level}
use Rattle.level.specs.Lookahead.{coming}
use Rattle.level.specs.declared.walk.Walk.{Walk}
use Rattle.level.proofs.Aheads.{area_more, area_back}
use Rattle.level.proofs.Stands.{Stands, stands_to, held_next, stop_is, stands_taken, stands_more}
use Rattle.level.proofs.Blocks.{after_after}
use Rattle.level.proofs.ahead.Ahead.walk_on.Goals as goal

pub returns-in_err-k-clause-back : goal.returns-in_err-k-clause-back
returns-in_err-k-clause-back c = area_back level (pos 0) c.args.out.now c.walks.out (coming c.args.self.now).numbers c.walks.walk.taken c.walks.invariant.holds

pub returns-then-k-eq0-clause-back : goal.returns-then-k-eq0-clause-back
returns-then-k-eq0-clause-back c = area_back level (pos 0) c.args.out.now c.walks.out (coming c.args.self.now).numbers c.walks.walk.taken c.walks.invariant.holds

pub returns-then-walk : goal.returns-then-walk
returns-then-walk c =
    let a = c.args.asked in
    let w : Walk = c.walks.walk in
    let s : Stream = coming c.args.self.now in
    let u : Stream = coming c.ready.new.self in
    let z = stands_to a s w (coming c.walks.self) u c.walks.invariant.stands c.ready.ensures.comes in
    let r = c.behind-rest.ensures in
    let next : Walk = c.walk_held-next.result in
    let n = held_next a w u z.levels c.behind-rest.result r.opened r.records r.levels c.if-rest-eq0.false next c.min.result (omega arith) (omega (arith, c.in_ok-k.ensures.there)) c.walk_held-next.ensures.is in
    let t : c.course-then-walk.result.taken ≡ w.taken + next.taken = ap (λ x. x.taken) c.course-then-walk.ensures ∙ ap (λ x. x.taken) c.then-walk.ensures in
    let y = area_more level c.args.out.now c.walks.out c.hand_on.new.out s.numbers w.taken next.taken z.there c.walks.invariant.holds
    (c.hand_on.ensures.holds ∙ ap (λ (x : Stream). appended c.walks.out (map level (take (min next.taken (room c.walks.out)) x.numbers))) z.comes) in
    record {
      is = stop_is a s w u z c.min.result next n c.course-then-walk.result c.then-walk.result c.course-then-walk.ensures c.then-walk.ensures c.if-walk.true;
      comes = c.hand_on.ensures.comes ∙ (ap (after next.taken) z.comes ∙ (after_after w.taken next.taken s ∙ ap (λ (j : ℕ). after j s) (sym t)));
      holds = y ∙ ap (λ (j : ℕ). appended c.args.out.now (map level (take (min j (room c.args.out.now)) s.numbers))) (sym t);
      back = area_back level (pos 0) c.args.out.now c.hand_on.new.out s.numbers (w.taken + next.taken) y;
    }

pub walks-smaller : goal.walks-smaller
walks-smaller c =
    let a = c.args.asked in
    let w : Walk = c.walks.walk in
    let s : Stream = coming c.args.self.now in
    let u : Stream = coming c.ready.new.self in
    let z = stands_to a s w (coming c.walks.self) u c.walks.invariant.stands c.ready.ensures.comes in
    let r = c.behind-rest.ensures in
    let next : Walk = c.walk_held-next.result in
    let n = held_next a w u z.levels c.behind-rest.result r.opened r.records r.levels c.if-rest-eq0.false next c.min.result (omega arith) (omega (arith, c.in_ok-k.ensures.there)) c.walk_held-next.ensures.is in
    let t = stands_taken a s w u z c.min.result next n (sym (ap (λ x. x.stopped) c.then-walk.ensures) ∙ c.if-walk.false) in
    omega (arith, t, n.some, ap (λ x. x.taken) c.then-walk.ensures, c.if-k-eq0.false, c.if-rest-eq0.false)

pub walks-preserved : goal.walks-preserved
walks-preserved c =
    let a = c.args.asked in
    let w : Walk = c.walks.walk in
    let s : Stream = coming c.args.self.now in
    let u : Stream = coming c.ready.new.self in
    let v : Stream = coming c.hand_on.new.self in
    let z = stands_to a s w (coming c.walks.self) u c.walks.invariant.stands c.ready.ensures.comes in
    let r = c.behind-rest.ensures in
    let next : Walk = c.walk_held-next.result in
    let n = held_next a w u z.levels c.behind-rest.result r.opened r.records r.levels c.if-rest-eq0.false next c.min.result (omega arith) (omega (arith, c.in_ok-k.ensures.there)) c.walk_held-next.ensures.is in
    let f = sym (ap (λ x. x.stopped) c.then-walk.ensures) ∙ c.if-walk.false in
    let t = stands_taken a s w u z c.min.result next n f in
    let y = area_more level c.args.out.now c.walks.out c.hand_on.new.out s.numbers w.taken next.taken z.there c.walks.invariant.holds
    (c.hand_on.ensures.holds ∙ ap (λ (x : Stream). appended c.walks.out (map level (take (min next.taken (room c.walks.out)) x.numbers))) z.comes) in
    record {
      stands = subst (λ (x : Walk). Stands a s x v) (sym c.then-walk.ensures) (stands_more a s w u z c.min.result next n v f (c.hand_on.ensures.comes ∙ ap (λ (j : ℕ). after j u) t));
      holds = y ∙ ap (λ (x : Walk). appended c.args.out.now (map level (take (min x.taken (room c.args.out.now)) s.numbers))) (sym c.then-walk.ensures);
    }
