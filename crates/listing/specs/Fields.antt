-- The first line of the program's input: b, s, W, k, a notation and a policy, with single spaces.
use Rattle.std.specs.Prelude.{◌≡◌, ℕ, ◌+◌, ◌≤◌, cond, ◌⊎◌, List, [], ◌∷◌, length, drop, Ok, Err, codes, Result, ◌==◌, nat_le}
use Rattle.std.specs.Str.Parse.{digits_value}
use Rattle.notations.specs.Bytes.{Figures}
use Rattle.notations.specs.Text.{onto}
use Rattle.notations.specs.declared.format.Format.{Format}
use Rattle.notations.specs.declared.format.Format.TheVariants.{Din, Lackey}
use Rattle.listing.specs.declared.first.Fields.{Fields}
use Rattle.listing.specs.declared.first.PolicyName.{PolicyName}
use Rattle.listing.specs.declared.first.PolicyName.TheVariants.{Lru, Srrip}
use Rattle.listing.specs.declared.first.Settings.{Settings}

-- each space ends a field, which may be empty, and the line's end the last
abbrev pub fields : List ℕ → List (List ℕ)
fields [] = [] ∷ []
fields (b ∷ bs) = cond (b == 32) ([] ∷ fields bs) (onto b (fields bs))

-- the fields that a reader has still to give
abbrev pub from : List ℕ → ℕ → List (List ℕ)
from line at = cond (nat_le at (length line)) (fields (drop at line)) []

abbrev pub awaited : Fields → List (List ℕ)
awaited reader = from reader.line.now reader.at

-- a number of one or two decimal digits
abbrev pub Number : List ℕ → ℕ → Type 0
Number f n = Figures 10 2 f × (n ≡ digits_value 10 f)

-- .. that is from `low` to `high`
abbrev pub Between : ℕ → ℕ → List ℕ → ℕ → Type 0
Between low high f n = Number f n × (low ≤ n) × (n ≤ high)

-- the words for the notations and the policies
abbrev pub FormatWord : List ℕ → Format → Type 0
FormatWord f Din = f ≡ codes "din"
FormatWord f Lackey = f ≡ codes "lackey"

abbrev pub policy_word : PolicyName → List ℕ
policy_word Lru = codes "lru"
policy_word Srrip = codes "srrip"

abbrev pub PolicyWord : List ℕ → PolicyName → Type 0
PolicyWord f p = f ≡ policy_word p

-- The line stays, and its next field is Right for the value x, and is passed; or it is not, for any value, and is refused at its column; or it is missing, and refused at the column after the line.
abbrev pub Got : {T : Type 0} → (List ℕ → T → Type 0) → Fields → Fields → Result T ℕ → Type 0
Got Right old new (Ok x) = (f : List ℕ) × (awaited old ≡ f ∷ awaited new) × (new.at ≡ old.at + length f + 1) × (new.line.now ≡ old.line.now) × Right f x
Got {T} Right old new (Err c) = (new.line.now ≡ old.line.now) × (((awaited old ≡ []) × (c ≡ length old.line.now + 1)) ⊎ ((f : List ℕ) × (fs : List (List ℕ)) × (awaited old ≡ f ∷ fs) × ((x : T) → Right f x → ⊥) × (c ≡ old.at + 1)))

-- No field is left; a further one is refused at its column.
abbrev pub Ended : Fields → Result (Unit {0}) ℕ → Type 0
Ended reader (Ok u) = awaited reader ≡ []
Ended reader (Err c) = (f : List ℕ) × (fs : List (List ℕ)) × (awaited reader ≡ f ∷ fs) × (c ≡ reader.at + 1)

-- One field of the first line, which is to be Right for some value: the rest of the line then decides. A wrong field is refused at its column, a missing one at the column after the line.
abbrev pub Next : {T : Type 0} → ℕ → (List ℕ → T → Type 0) → (T → List (List ℕ) → ℕ → Result Settings ℕ → Type 0) → List (List ℕ) → ℕ → Result Settings ℕ → Type 0
Next after Right Then [] column r = r ≡ Err after
Next {T} after Right Then (f ∷ fs) column r = ((x : T) × Right f x × Then x fs (column + length f + 1) r) ⊎ (((x : T) → Right f x → ⊥) × (r ≡ Err column))

-- no field is left; a further one is refused at its column
abbrev pub End : (Settings → Type 0) → List (List ℕ) → ℕ → Result Settings ℕ → Type 0
End Chosen [] column (Ok x) = Chosen x
End Chosen [] column (Err c) = ⊥
End Chosen (f ∷ fs) column r = r ≡ Err column

pub record Chosen (b s W k : ℕ) (format : Format) (policy : PolicyName) (x : Settings) : Type 0 where
  pub b_is : x.geometry.b ≡ b
  pub s_is : x.geometry.s ≡ s
  pub ways_are : x.geometry.ways ≡ W
  pub k_is : x.k ≡ k
  pub format_is : x.format ≡ format
  pub policy_is : x.policy ≡ policy

-- The first line: b from 2 to 12, s from 0 to 10, W from 1 to 16, k from 1 to 16 with s + k at most 8, a notation, a policy, and no more.
abbrev pub FirstLine : List ℕ → Result Settings ℕ → Type 0
FirstLine line r =
    Next (length line + 1) (Between 2 12)
    (λ b. Next (length line + 1) (Between 0 10)
    (λ s. Next (length line + 1) (Between 1 16)
    (λ W. Next (length line + 1) (λ f k. Between 1 16 f k × (s + k ≤ 8))
    (λ k. Next (length line + 1) FormatWord
    (λ format. Next (length line + 1) PolicyWord
    (λ policy. End (Chosen b s W k format policy)))))))
    (fields line) 1 r
