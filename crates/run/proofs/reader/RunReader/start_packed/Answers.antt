use Rattle.std.proofs.Common.{ℕ, length, ◌∙◌, arith}
use Rattle.std.proofs.lemmas.List.{length-take, length-drop}
use Rattle.run.proofs.Loads.{fits_whole, fits_cut, cut_few, next_whole, next_cut}
use Rattle.run.proofs.reader.RunReader.start_packed.Goals.{then-size-rest, else-size-rest}
use Rattle.run.proofs.reader.RunReader.start_packed.Goals as goal

pub invariant_of-self : goal.invariant_of-self
invariant_of-self c =
    let b : ℕ = c.bits-width.result in
    let n : ℕ = c.if-size-rest.count in
    let rest = c.args.rest.now in
    elim c.if-size-rest.branch [
      | then-size-rest w ↦ record {
        short = omega (arith, w.count-is);
        whole = fits_whole c.args.self.now.width.bits b c.args.groups n rest c.bits-width.ensures.is w.count-is w.if-size-rest.true;
      }
      | else-size-rest w ↦ record {
        short = omega (arith, w.count-is, w.cut_numbers-count.ensures, cut_few b c.args.groups (length rest) w.if-size-rest.false);
        whole = fits_cut c.args.self.now.width.bits b n rest c.bits-width.ensures.is (w.count-is ∙ w.cut_numbers-count.ensures);
      }
    ]

pub returns : goal.returns
returns c =
    let s = c.args.self.now in
    let b : ℕ = c.bits-width.result in
    let n : ℕ = c.if-size-rest.count in
    let rest = c.args.rest.now in
    record {
      is = elim c.if-size-rest.branch [
        | then-size-rest w ↦ next_whole s.width.bits b s.limit c.args.groups n c.min.result rest c.bits-width.ensures.is w.count-is c.min.ensures w.if-size-rest.true
        | else-size-rest w ↦ next_cut s.width.bits b s.limit c.args.groups n c.min.result rest c.bits-width.ensures.is (w.count-is ∙ w.cut_numbers-count.ensures) c.min.ensures w.if-size-rest.false
      ];
      on = simp (length-take, length-drop) (omega arith);
    }
