-- What a word of base sixteen spells.
use Rattle.std.specs.Prelude.{ℕ, ◌+◌, ◌-◌, ◌*◌, ◌&&◌, nat_le, if◌then◌else◌, List, [], ◌∷◌}

-- the value of a digit: `0` to `9` are 48 to 57, `a` to `f` are 97 to 102, `A` to `F` are 65 to 70, and any other byte is 0
abbrev pub digit_value : ℕ → ℕ
digit_value c =
    if nat_le 48 c && nat_le c 57 then c - 48
    else if nat_le 97 c && nat_le c 102 then c - 87
    else if nat_le 65 c && nat_le c 70 then c - 55
    else 0

-- a byte for each two digits, the higher first; one that is left over spells none
abbrev pub spelled : List ℕ → List ℕ
spelled (high ∷ low ∷ rest) = (digit_value high * 16 + digit_value low) ∷ spelled rest
spelled (one ∷ []) = []
spelled [] = []
