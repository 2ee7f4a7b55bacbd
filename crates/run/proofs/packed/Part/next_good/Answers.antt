use Rattle.std.proofs.Common.{◌≡◌, ℕ, ◌≤◌, List, ◌++◌, length, take, drop, sym, ap, ◌∙◌, arith}
use Rattle.std.proofs.lemmas.List.{append-nil, length-append, map-id, take_at, length-take-le}
use Rattle.run.specs.Packed.{numbers, good, all_good}
use Rattle.run.proofs.Goods.{good_most, good_stops, good_goes_on, good_count, block_front}
use Rattle.run.proofs.PackedParts.{numbers_length}
use Rattle.run.proofs.packed.Part.next_good.Goals as goal

pub returns-then-k-n : goal.returns-then-k-n
returns-then-k-n c =
    let p = c.args.self.now in
    let xs : List ℕ = numbers p in
    let n : ℕ = c.min-n.result in
    let k : ℕ = c.first_at_least-k.result in
    let l : n ≤ length xs = omega (arith, numbers_length p) in
    let ys : List ℕ = c.unpack.new.out in
    let zs : List ℕ = drop n c.args.held.now in
    let e : ys ≡ take n xs = c.unpack.ensures ∙ (map-id _ ∙ c.front.ensures.numbers) in
    let t : take n (ys ++ zs) ≡ take n xs = take_at ys zs n (ap length e ∙ length-take-le n xs l) ∙ e in
    let h : k ≡ good c.args.limit (take n xs) = c.first_at_least-k.ensures ∙ ap (good c.args.limit) t in
    let g = good_stops c.args.limit n k xs l h (omega arith)
    ∙ (sym (block_front xs ys zs n k e l (omega arith))
    ∙ (sym (append-nil (take k (ys ++ zs))) ∙ ap (λ vs. take k (ys ++ zs) ++ all_good c.args.limit vs) (sym c.front-then-k-n.ensures.numbers))) in
    record {
      most = omega arith;
      smaller = omega (arith, c.front-then-k-n.ensures.count);
      count = good_count c.args.limit k xs (numbers c.front-then-k-n.result) (ys ++ zs) (omega (arith, length-append ys zs, ap length e, length-take-le n xs l)) g;
      good = g;
    }

pub returns-else-k-n : goal.returns-else-k-n
returns-else-k-n c =
    let p = c.args.self.now in
    let xs : List ℕ = numbers p in
    let n : ℕ = c.min-n.result in
    let k : ℕ = c.first_at_least-k.result in
    let l : n ≤ length xs = omega (arith, numbers_length p) in
    let ys : List ℕ = c.unpack.new.out in
    let zs : List ℕ = drop n c.args.held.now in
    let e : ys ≡ take n xs = c.unpack.ensures ∙ (map-id _ ∙ c.front.ensures.numbers) in
    let t : take n (ys ++ zs) ≡ take n xs = take_at ys zs n (ap length e ∙ length-take-le n xs l) ∙ e in
    let h : k ≡ good c.args.limit (take n xs) = c.first_at_least-k.ensures ∙ ap (good c.args.limit) t in
    let m : k ≤ n = omega (arith, good_most c.args.limit (take n xs), length-take-le n xs l) in
    let g = good_goes_on c.args.limit n k xs l h (omega arith)
    ∙ (ap (λ us. us ++ all_good c.args.limit (drop n xs)) (sym (block_front xs ys zs n k e l m))
    ∙ ap (λ vs. take k (ys ++ zs) ++ all_good c.args.limit vs) (sym c.behind.ensures.numbers)) in
    record {
      most = omega arith;
      smaller = omega (arith, c.behind.ensures.count);
      count = good_count c.args.limit k xs (numbers c.behind.result) (ys ++ zs) (omega (arith, length-append ys zs, ap length e, length-take-le n xs l)) g;
      good = g;
    }
