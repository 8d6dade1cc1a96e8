-- One more digit of a number.
use Rattle.std.proofs.Common.{◌≡◌, ℕ, ◌+◌, ◌*◌, ◌^◌, ◌<◌, ◌≤◌, List, length, get_or, take, sym, ap, ◌∙◌, subst, arith}
use native.Mathlib.Nat.{pow-le-pow_right}
use Rattle.std.specs.Str.Parse.{AllDigits, digits_value}
use Rattle.std.specs.Char.{digit_value}
use Rattle.std.proofs.lemmas.Int.Digits.{digits_value_more, digits_value-lt, digits_more}
use Rattle.std.proofs.lemmas.List.{length-take-le}

pub record Longer (radix : ℕ) (bs : List ℕ) (i v : ℕ) : Type 0 where
  pub fits : v < 2 ^ 64
  pub digits : AllDigits radix (take (i + 1) bs)
  pub is : v ≡ digits_value radix (take (i + 1) bs)

pub longer : (radix most : ℕ) (bs : List ℕ) (i v b d : ℕ) → 2 ≤ radix → radix ^ most ≤ 2 ^ 64 → i < most → i < length bs → AllDigits radix (take i bs) → v ≡ digits_value radix (take i bs) → b ≡ get_or bs i 0 → digit_value b < radix → d ≡ digit_value b → Longer radix bs i (v * radix + d)
longer radix most bs i v b d two room few within digits is here low digit =
    let last : d ≡ digit_value (get_or bs i 0) = digit ∙ ap digit_value here in
    let more = digits_more radix bs i within digits (subst (λ x. digit_value x < radix) here low) in
    let now' : v * radix + d ≡ digits_value radix (take (i + 1) bs) = (λ j. is j * radix + last j) ∙ sym (digits_value_more radix bs i within) in
    let small = subst (λ n. digits_value radix (take (i + 1) bs) < radix ^ n) (length-take-le (i + 1) bs (omega arith)) (digits_value-lt radix (take (i + 1) bs) more) in
    let power : radix ^ (i + 1) ≤ radix ^ most = pow-le-pow_right (omega arith) (omega arith) in
    record { fits = omega arith; digits = more; is = now' }
