use Rattle.std.proofs.Common.{◌≡◌, ℕ, ◌+◌, ◌-◌, ◌<◌, ◌≤◌, List, length, take, drop, sym, refl, ap, ◌∙◌, arith}
use Rattle.std.proofs.lemmas.List.{length-take, length-drop, nil_from_length}
use Rattle.std.proofs.lemmas.Bool.{eqb-true}
use Rattle.run.specs.Runs.{left_of}
use Rattle.run.proofs.Loads.{run_done, repeated_next, packed_next}
use Rattle.run.proofs.reader.RunReader.next_run.Goals as goal

-- what lies behind a header is shorter
shorter : (d rest : List ℕ) (n k : ℕ) → rest ≡ take (length d - (n + 1)) (drop (n + 1) d) → n < length d → k ≤ length rest → k < length d
shorter d rest n k e h l = omega (arith, simp (length-take, length-drop) at (ap length e))

pub returns-in-Some-Repeated : goal.returns-in-Some-Repeated
returns-in-Some-Repeated c =
    let s = c.args.self.now in
    let d : List ℕ = s.bytes.now in
    let h : ℕ = c.in-Some.header.number in
    let n : ℕ = c.in-Some.header.more in
    let rest : List ℕ = take (length d - (n + 1)) (drop (n + 1) d) in
    let head = rw c.in-Some.is at c.in_ok-header.ensures.is in
    let small = rw c.in-Some.is at c.in_ok-header.ensures.small in
    let start = rw c.in-Some-Repeated.field-0-is at (rw c.in-Some-Repeated.is at c.in_ok-read_start.ensures) in (
      run_done s (nil_from_length (left_of s.run) (eqb-true (length (left_of s.run)) 0 (sym c.is_empty.ensures ∙ c.if-not-is_empty.false)))
          ∙ (repeated_next s.width.bits s.limit h n d rest head refl c.in-Some-Repeated.count c.in-Some-Repeated.value start ∙ sym c.start_repeated.ensures.is),
      shorter d rest n (length c.start_repeated.new.self.bytes.now) refl small.2 c.start_repeated.ensures.on,
    )

pub returns-in-Some-Packed : goal.returns-in-Some-Packed
returns-in-Some-Packed c =
    let s = c.args.self.now in
    let d : List ℕ = s.bytes.now in
    let h : ℕ = c.in-Some.header.number in
    let n : ℕ = c.in-Some.header.more in
    let rest : List ℕ = take (length d - (n + 1)) (drop (n + 1) d) in
    let head = rw c.in-Some.is at c.in_ok-header.ensures.is in
    let small = rw c.in-Some.is at c.in_ok-header.ensures.small in
    let start = rw c.in-Some-Packed.field-0-is at (rw c.in-Some-Packed.is at c.in_ok-read_start.ensures) in (
      run_done s (nil_from_length (left_of s.run) (eqb-true (length (left_of s.run)) 0 (sym c.is_empty.ensures ∙ c.if-not-is_empty.false)))
          ∙ (packed_next s.width.bits s.limit h n d rest head refl c.in-Some-Packed.groups start ∙ sym c.start_packed.ensures.is),
      shorter d rest n (length c.start_packed.new.self.bytes.now) refl small.2 c.start_packed.ensures.on,
    )
