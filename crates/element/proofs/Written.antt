-- Laws of elements that are written all at once.
use Rattle.std.proofs.Common.{◌≡◌, ℕ, ◌≤◌, List, [], ◌++◌, map, length, take, drop, ap, ◌∙◌, arith}
use Rattle.std.proofs.lemmas.List.{append-nil, drop_all, take_all}

-- as many numbers as there are places
pub wrote_all : {X : Type 0} (f : ℕ → X) (ns : List ℕ) (o p : List X) → length ns ≡ length o → p ≡ map f (take (length o) ns) ++ drop (length ns) o → p ≡ map f ns
wrote_all f ns o p l e =
    e ∙ (ap (λ xs. map f xs ++ drop (length ns) o) (take_all (length o) ns (omega arith))
    ∙ (ap (λ z. map f ns ++ z) (drop_all (length ns) o (omega arith)) ∙ append-nil (map f ns)))
