-- Laws of a call for records, a block at a time.
use Rattle.std.proofs.Common.{◌≡◌, ℕ, ◌+◌, ◌-◌, ◌<◌, ◌≤◌, Bool, true, false, not, ◌&&◌, ◌||◌, eqb, List, ◌++◌, length, take, drop, Ok, Result, sym, ap, subst, ◌∙◌, arith}
use Rattle.std.proofs.Math.Seq.{take-add}
use Rattle.std.proofs.lemmas.List.{length-take, length-drop}
use Rattle.std.proofs.lemmas.Bool.{cond-false}
use Rattle.stream.specs.Streams.{Stream}
use Rattle.run.specs.declared.kind.StreamFault.{StreamFault}
use Rattle.run.specs.Reading.{fails, given, after, filled, some_of}
use Rattle.level.specs.declared.asked.Asked.{Asked}
use Rattle.level.specs.declared.walk.Walk.{Walk}
use Rattle.level.specs.declared.course.Course.{Course}
use Rattle.level.specs.Courses.{broken}
use Rattle.level.specs.Records.{joined, walk, found, by_walk, course_of}
use Rattle.level.proofs.Blocks.{some_given, block_holds, after_after}
use Rattle.level.proofs.Walks.{joined_assoc, walk_few, walk_length, walk_whole, walk_stopped, walk_on}

module _ (w : Walk) (m : ℕ) (s : Stream) where
  by_stop : w.stopped ≡ true → by_walk w m s ≡ Ok (found w true)
  by_stop e =
      cond-false (not w.stopped && fails m s) broken _ (ap (λ b. not b && fails m s) e)
      ∙ ap (λ (b : Bool). Ok (found w (b || eqb w.taken m))) e

-- A call for records stands behind the walk `w`, and `u` is to come.
pub record Stands (a : Asked) (s : Stream) (w : Walk) (u : Stream) : Type 0 where
  pub walked : walk a.opened a.records (take a.levels s.numbers) ≡ joined w (walk w.opened (a.records - w.closed) (take (a.levels - w.taken) u.numbers))
  pub comes : u ≡ after w.taken s
  pub there : w.taken ≤ length s.numbers
  pub levels : w.taken ≤ a.levels
  pub records : w.closed ≤ a.records
  pub some : w.taken < a.levels → w.closed < a.records

-- the next `n` levels, of `u`, are walked over
pub record Next (a : Asked) (w : Walk) (u : Stream) (n : ℕ) (next : Walk) : Type 0 where
  pub some : w.taken < a.levels
  pub levels : n ≤ a.levels - w.taken
  pub there : n ≤ length u.numbers
  pub walked : next ≡ walk w.opened (a.records - w.closed) (take n u.numbers)

module _ (a : Asked) (s : Stream) (w : Walk) (u : Stream) (z : Stands a s w u) where
  left_is : length u.numbers ≡ length s.numbers - w.taken
  left_is = ap (λ t. length t.numbers) z.comes ∙ length-drop w.taken s.numbers

  -- the next `n` levels are walked over
  module _ (n : ℕ) (next : Walk) (x : Next a w u n next) where
    l : w.taken < a.levels
    l = x.some

    h : n ≤ a.levels - w.taken
    h = x.levels

    k : n ≤ length u.numbers
    k = x.there

    e : next ≡ walk w.opened (a.records - w.closed) (take n u.numbers)
    e = x.walked

    few : w.closed < a.records
    few = z.some l

    block_then : take (a.levels - w.taken) u.numbers ≡ take n u.numbers ++ take ((a.levels - w.taken) - n) (drop n u.numbers)
    block_then = let j : a.levels - w.taken ≡ n + ((a.levels - w.taken) - n) = omega arith in ap (λ (i : ℕ). take i u.numbers) j ∙ take-add n ((a.levels - w.taken) - n) u.numbers

    pub next_taken : next.taken ≤ n
    next_taken = omega (arith, ap (λ x. x.taken) e, walk_length w.opened (a.records - w.closed) (take n u.numbers), length-take n u.numbers)

    pub next_there : w.taken + next.taken ≤ length s.numbers
    next_there = omega (arith, next_taken, left_is, k, z.there)

    -- they close the last record
    stands_stop : next.stopped ≡ true → course_of a s ≡ Ok (found (joined w next) true)
    stands_stop f =
        let b : (walk w.opened (a.records - w.closed) (take n u.numbers)).stopped ≡ true = sym (ap (λ y. y.stopped) e) ∙ f in
        let j : walk a.opened a.records (take a.levels s.numbers) ≡ joined w next =
        z.walked ∙ (ap (λ y. joined w (walk w.opened (a.records - w.closed) y)) block_then
        ∙ (ap (joined w) (walk_stopped w.opened (a.records - w.closed) (take n u.numbers) (take ((a.levels - w.taken) - n) (drop n u.numbers)) b) ∙ ap (joined w) (sym e))) in
        ap (λ (y : Walk). by_walk y a.levels s) j ∙ by_stop (joined w next) a.levels s f

    pub stop_is : (c : Course) (y : Walk) → c ≡ found y true → y ≡ joined w next → y.stopped ≡ true → ◌≡◌ {A = Result Course StreamFault} (Ok c) (course_of a s)
    stop_is c y d g f = ap (λ (o : Course). Ok o) (d ∙ ap (λ (o : Walk). found o true) g) ∙ sym (stands_stop (sym (ap (λ o. o.stopped) g) ∙ f))

    pub stands_taken : next.stopped ≡ false → next.taken ≡ n
    stands_taken f =
        let y : (walk w.opened (a.records - w.closed) (take n u.numbers)).taken ≡ length (take n u.numbers) = walk_whole w.opened (a.records - w.closed) (take n u.numbers) (sym (ap (λ t. t.stopped) e) ∙ f) in
        ap (λ y. y.taken) e ∙ (y ∙ (length-take n u.numbers ∙ omega (arith, k)))

    -- they don't, and more are to come
    pub stands_more : (v : Stream) → next.stopped ≡ false → v ≡ after n u → Stands a s (joined w next) v
    stands_more v f d =
        let t = stands_taken f in
        let b : (walk w.opened (a.records - w.closed) (take n u.numbers)).stopped ≡ false = sym (ap (λ y. y.stopped) e) ∙ f in
        let ys = take ((a.levels - w.taken) - n) (drop n u.numbers) in
        let i : (a.records - w.closed) - next.closed ≡ a.records - (w.closed + next.closed) = omega arith in
        let g : (a.levels - w.taken) - n ≡ a.levels - (w.taken + next.taken) = omega (arith, t) in
        let f0 = few in
        let r : next.closed < a.records - w.closed = (let y = walk_few w.opened (a.records - w.closed) (take n u.numbers) (omega arith) b in omega (arith, y, ap (λ y. y.closed) e)) in
        record {
          walked = z.walked ∙ (ap (λ y. joined w (walk w.opened (a.records - w.closed) y)) block_then
              ∙ (ap (joined w) (walk_on w.opened (a.records - w.closed) (take n u.numbers) ys b ∙ ap (λ (y : Walk). joined y (walk y.opened ((a.records - w.closed) - y.closed) ys)) (sym e))
              ∙ (joined_assoc w next (walk next.opened ((a.records - w.closed) - next.closed) ys)
              ∙ (ap (λ (j : ℕ). joined (joined w next) (walk next.opened j ys)) i
              ∙ (ap (λ (j : ℕ). joined (joined w next) (walk next.opened (a.records - (w.closed + next.closed)) (take j (drop n u.numbers)))) g
              ∙ ap (λ (v : Stream). joined (joined w next) (walk next.opened (a.records - (w.closed + next.closed)) (take (a.levels - (w.taken + next.taken)) v.numbers))) (sym d))))));
          comes = d ∙ (ap (after n) z.comes ∙ (after_after w.taken n s ∙ ap (λ (j : ℕ). after (w.taken + j) s) (sym t)));
          there = omega (arith, left_is, t, z.there, k);
          levels = omega (arith, t, z.levels);
          records = omega (arith, r);
          some = λ _. omega (arith, r);
        }

pub stands_to : (a : Asked) (s : Stream) (w : Walk) (u v : Stream) → Stands a s w u → v ≡ u → Stands a s w v
stands_to a s w u v z e = subst (Stands a s w) (sym e) z

-- a walk over what is still asked for
module _ (a : Asked) (w : Walk) (u : Stream) (z : w.taken ≤ a.levels) (r : Asked) (o : r.opened ≡ w.opened) (d : r.records ≡ a.records - w.closed) (l : r.levels ≡ a.levels - w.taken) (some : r.levels ≡ 0 → ⊥) (next : Walk) where
  pub held_next : (n : ℕ) → n ≤ r.levels → n ≤ length u.numbers → next ≡ walk r.opened r.records (take n u.numbers) → Next a w u n next
  held_next n h k e = record { some = omega (arith, some); levels = omega arith; there = k; walked = cc }

  pub block_next : (k n : ℕ) (b p : List ℕ) → n ≤ r.levels → ◌≡◌ {A = Result ℕ StreamFault} (Ok k) (some_of (length (take n b)) u) → p ≡ filled (λ x. x) u (take n b) → next ≡ walk r.opened r.records (take k (p ++ drop n b)) → Next a w u k next
  block_next k n b p h g f e =
      let m : k ≡ given (length (take n b)) u = some_given (length (take n b)) u k g in
      held_next k (omega (arith, m, length-take n b)) (omega (arith, m)) (e ∙ ap (walk r.opened r.records) (block_holds k u (take n b) p (drop n b) m f))
