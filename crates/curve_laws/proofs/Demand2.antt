-- The round trips of demand 2: decode after encode gives the cell, encode after decode the index, in 2D and in 3D, at every accepted order.
-- Both machines' rows are permutations, so RoundTrip's laws hold of them. Assumes nothing.
use Prim.Native.Nat.{ℕ, zero, suc, ◌*◌, ◌^◌, ◌<◌}
use mathlib.Core.Path.{◌≡◌, sym, ap, ap₂, ◌∙◌, subst}
use mathlib.Core.List.{[], ◌∷◌}
use native.Mathlib.Nat.{pow-zero, pow-suc, mul-zero, mul_comm}
use Rattle.std.specs.Prelude.{Ok}
use lib.Dec.{lit<}
use lib.Pow.{pow-add}
use Rattle.rules.specs.Curve.{plane, space, cell2, cell3, index_of, coordinate_of}
use Rattle.rules.specs.Demands.{DecodeEncode2, EncodeDecode2, DecodeEncode3, EncodeDecode3}
use Rattle.curve_laws.proofs.Parts.{more}
use Rattle.curve_laws.proofs.Permutes.{plane_permutes, plane_start, space_permutes, space_start}
use Rattle.curve_laws.proofs.RoundTrip.{decode-encode, encode-decode, index_below, coordinate_below}
use Rattle.curve_laws.proofs.Refusals.{encode2_index, encode3_index, decode2_cell, decode3_cell}

-- 4^order and 8^order are 2^(d * order)
pub power : (d k : ℕ) → (2 ^ d) ^ k ≡ 2 ^ (d * k)
power d zero = pow-zero (2 ^ d) ∙ ap (λ (n : ℕ). 2 ^ n) (sym (mul-zero d))
power d (suc k) =
    pow-suc (2 ^ d) k
    ∙ ap (λ (n : ℕ). n * 2 ^ d) (power d k)
    ∙ mul_comm (2 ^ (d * k)) (2 ^ d)
    ∙ sym (pow-add 2 d (d * k))
    ∙ ap (λ (n : ℕ). 2 ^ n) (more d k)

pub decode_encode_2d : DecodeEncode2
decode_encode_2d x y order o p q =
    let b = decode-encode plane plane_permutes plane_start order (cell2 x y) in (
      index_of plane order (cell2 x y),
      encode2_index x y order o p q,
      decode2_cell _ order o (index_below plane plane_permutes plane_start order (cell2 x y)) ∙ ap₂ (λ (u v : ℕ). Ok (u ∷ v ∷ [])) (b 1 (lit< tt) p) (b 0 (lit< tt) q),
    )

pub encode_decode_2d : EncodeDecode2
unfolding index_of
encode_decode_2d i order o h =
    let l : i < 2 ^ (2 * order) = subst (λ (n : ℕ). i < n) (power 2 order) h in
    let x : ℕ = coordinate_of plane order i 1 in
    let y : ℕ = coordinate_of plane order i 0 in (
      x,
      y,
      decode2_cell i order o l,
      encode2_index x y order o (coordinate_below plane order i 1) (coordinate_below plane order i 0)
          ∙ ap (λ (n : ℕ). Ok n) (encode-decode plane plane_permutes plane_start order i l),
    )

pub decode_encode_3d : DecodeEncode3
decode_encode_3d x y z order o p q r =
    let b = decode-encode space space_permutes space_start order (cell3 x y z) in (
      index_of space order (cell3 x y z),
      encode3_index x y z order o p q r,
      decode3_cell _ order o (index_below space space_permutes space_start order (cell3 x y z))
          ∙ cc (b 2 (lit< tt) p, b 1 (lit< tt) q, b 0 (lit< tt) r),
    )

pub encode_decode_3d : EncodeDecode3
unfolding index_of
encode_decode_3d i order o h =
    let l : i < 2 ^ (3 * order) = subst (λ (n : ℕ). i < n) (power 3 order) h in
    let x : ℕ = coordinate_of space order i 2 in
    let y : ℕ = coordinate_of space order i 1 in
    let z : ℕ = coordinate_of space order i 0 in (
      x,
      y,
      z,
      decode3_cell i order o l,
      encode3_index x y z order o (coordinate_below space order i 2) (coordinate_below space order i 1) (coordinate_below space order i 0)
          ∙ ap (λ (n : ℕ). Ok n) (encode-decode space space_permutes space_start order i l),
    )
