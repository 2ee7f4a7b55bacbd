use Rattle.std.proofs.Common.{◌≡◌, ℕ, ◌+◌, ◌-◌, ◌≤◌, List, [], ◌++◌, map, length, take, drop, sym, ap, ◌∙◌, arith}
use Rattle.std.proofs.lemmas.List.{append-nil, append_assoc, map-append, drop-drop, length-append, length-drop, length-map, length-take, length-take-le, nil_from_length, take-append-drop}
use Rattle.std.proofs.lemmas.Slice.{take-put_mid, drop-put_mid}
use borrow.Rule.Slice.PartMut.{put_mid}
use Rattle.run.specs.Packed.{numbers, good, all_good}
use Rattle.element.proofs.Written.{wrote_all}
use Rattle.run.proofs.Goods.{good_most}
use Rattle.run.proofs.PackedParts.{numbers_length}
use Rattle.run.proofs.packed.Part.unpack_held.Goals as goal

pub overflow_add-k : goal.overflow_add-k
overflow_add-k g c = let s = c.args.self in omega (arith, good_most c.args.limit (numbers s), numbers_length s)

pub slice_bounds-write_numbers-end-in-loop-rest : goal.slice_bounds-write_numbers-end-in-loop-rest
slice_bounds-write_numbers-end-in-loop-rest g c = let s = c.args.self in omega (arith, good_most c.args.limit (numbers s), numbers_length s)

pub loop-rest-preserved : goal.loop-rest-preserved
loop-rest-preserved g c =
    let f = g.T.Number.from in
    let s = c.args.self in
    let k : ℕ = c.loop-rest.k in
    let n : ℕ = c.next_good-n.result in
    let o = c.loop-rest.out in
    let p = c.write_numbers.new.out in
    let ys : List ℕ = take n c.next_good-n.new.held in
    let zs : List ℕ = all_good c.args.limit (numbers c.next_good-n.new.self) in
    let m : k + n ≤ length o = omega (arith, good_most c.args.limit (numbers s), numbers_length s) in
    let hl : length ys ≡ n = length-take-le n c.next_good-n.new.held (omega arith) in
    let sl = take (k + n - k) (drop k o) in
    let w : p ≡ map f ys = wrote_all f ys sl p (hl ∙ (let z : n ≡ length sl = simp (length-take, length-drop) (omega arith) in z)) c.write_numbers.ensures in
    let l : length p ≡ n = ap length w ∙ (length-map ys f ∙ length-take-le n c.next_good-n.new.held (omega arith)) in
    let q = put_mid k (k + n - k) o p in
    let t : take (k + n) q ≡ take k o ++ p = take-put_mid k (k + n - k) o p (k + n) (omega arith) (omega arith) in
    record {
      held = omega arith;
      within = omega (arith, ap length t, length-take (k + n) q, length-append (take k o) p, length-take-le k o (omega arith));
      many = omega arith;
      written = ap (λ us. us ++ map f zs) t
          ∙ (append_assoc (take k o) p (map f zs)
          ∙ (ap (λ us. take k o ++ (us ++ map f zs)) w
          ∙ (ap (λ us. take k o ++ us) (sym (map-append f ys zs) ∙ ap (map f) (sym c.next_good-n.ensures.good)) ∙ c.loop-rest.invariant.written)));
      kept = drop-put_mid k _ o p (k + n) (omega arith) (omega arith) (omega arith)
          ∙ (sym (drop-drop n k o) ∙ (ap (drop n) c.loop-rest.invariant.kept ∙ drop-drop n k c.args.out.now));
    }

pub returns : goal.returns
returns g c =
    let f = g.T.Number.from in
    let s = c.args.self in
    let r = c.loop-rest.rest in
    let k : ℕ = c.loop-rest.k in
    let o = c.loop-rest.out in
    let z : numbers r ≡ [] = nil_from_length (numbers r) (omega (arith, numbers_length r)) in
    let e : k ≡ good c.args.limit (numbers s) = omega (arith, good_most c.args.limit (numbers r), numbers_length r) in
    record {
      is = e;
      written = sym (take-append-drop k o)
          ∙ (ap (λ us. us ++ drop k o) (sym (append-nil (take k o)) ∙ (ap (λ us. take k o ++ map f (all_good c.args.limit us)) (sym z) ∙ (c.loop-rest.invariant.written ∙ ap (λ j. map f (take j (numbers s))) (sym e))))
          ∙ ap (λ us. map f (take k (numbers s)) ++ us) c.loop-rest.invariant.kept);
    }
