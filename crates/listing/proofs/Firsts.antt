-- The first line, field after field: what is still to come gives the whole.
use Rattle.std.proofs.Common.{◌≡◌, ℕ, ◌+◌, ◌-◌, ◌≤◌, List, [], length, Ok, Err, Result, sym, refl, ap, ◌∙◌, subst, inl, inr, ⊎_elim, arith}
use Rattle.notations.specs.declared.format.Format.{Format}
use Rattle.listing.specs.Fields.{awaited, fields, Between, FormatWord, PolicyWord, Got, Ended, Next, End, Chosen, FirstLine}
use Rattle.listing.specs.declared.first.Fields.{Fields}
use Rattle.listing.specs.declared.first.PolicyName.{PolicyName}
use Rattle.listing.specs.declared.first.Settings.{Settings}
use Rattle.listing.specs.Listing.{first_of}

-- What a part of a line says: of the column after the line, the fields, and the column of the first of them.
abbrev Part : Type 1
Part = ℕ → List (List ℕ) → ℕ → Result Settings ℕ → Type 0

-- .. of what a reader has still to give
abbrev pub Rest : Part → Fields → Result Settings ℕ → Type 0
Rest P reader r = P (length reader.line.now + 1) (awaited reader) (reader.at + 1) r

-- a field that is right, and then the rest
pub right : {T : Type 0} (Right : List ℕ → T → Type 0) (Then : T → Part) (old new : Fields) (x : T) (r : Result Settings ℕ) → Got Right old new (Ok x) → Rest (Then x) new r → Rest (λ after. Next after Right (λ y. Then y after)) old r
right {T} Right Then old new x r g rest =
    let after : length new.line.now + 1 ≡ length old.line.now + 1 = ap (λ l. length l + 1) g.3 in
    let column : new.at + 1 ≡ old.at + 1 + length g.0 + 1 = let e = g.2 in omega arith in
    subst (λ fs. Next (length old.line.now + 1) Right (λ y. Then y (length old.line.now + 1)) fs (old.at + 1) r) (sym g.1)
    (inl (x, g.4, subst (λ c. Then x (length old.line.now + 1) (awaited new) c r) column (subst (λ a. Then x a (awaited new) (new.at + 1) r) after rest)))

-- a field that is wrong or missing
pub wrong : {T : Type 0} (Right : List ℕ → T → Type 0) (Then : T → Part) (old new : Fields) (c : ℕ) (r : Result Settings ℕ) → r ≡ Err c → Got {T = T} Right old new (Err c) → Rest (λ after. Next after Right (λ y. Then y after)) old r
wrong {T} Right Then old new c r is g =
    let all : List (List ℕ) → Type 0 = λ fs. Next (length old.line.now + 1) Right (λ y. Then y (length old.line.now + 1)) fs (old.at + 1) r in
    ⊎_elim (λ w. subst all (sym w.0) (is ∙ ap Err w.1)) (λ w. subst all (sym w.2) (inr (w.3, is ∙ ap Err w.4))) g.1

-- s + k at most 8 keeps k at most 16
abbrev pub Slots : ℕ → List ℕ → ℕ → Type 0
Slots s f k = Between 1 16 f k × (s + k ≤ 8)

pub slots : (s n : ℕ) (old new : Fields) (r : Result ℕ ℕ) → n ≡ 8 - s → Got (Between 1 n) old new r → Got (Slots s) old new r
slots s n old new (Ok k) most g = let low = g.4.1 in let high = g.4.2 in (g.0, g.1, g.2, g.3, ((g.4.0, omega arith, omega arith), omega arith))
slots s n old new (Err c) most g = (g.0, ⊎_elim inl (λ w. inr (w.0, w.1, w.2, (λ k h. let sum = h.1 in w.3 k (h.0.0, h.0.1, omega arith)), w.4)) g.1)

-- the line from each of its fields on
abbrev pub FromEnd : ℕ → ℕ → ℕ → ℕ → Format → PolicyName → Part
FromEnd b s W k f p after = End (Chosen b s W k f p)

abbrev pub FromPolicy : ℕ → ℕ → ℕ → ℕ → Format → Part
FromPolicy b s W k f after = Next after PolicyWord (λ p. FromEnd b s W k f p after)

abbrev pub FromFormat : ℕ → ℕ → ℕ → ℕ → Part
FromFormat b s W k after = Next after FormatWord (λ f. FromPolicy b s W k f after)

abbrev pub FromSlots : ℕ → ℕ → ℕ → Part
FromSlots b s W after = Next after (Slots s) (λ k. FromFormat b s W k after)

abbrev pub FromWays : ℕ → ℕ → Part
FromWays b s after = Next after (Between 1 16) (λ W. FromSlots b s W after)

abbrev pub FromSets : ℕ → Part
FromSets b after = Next after (Between 0 10) (λ s. FromWays b s after)

-- a reader that has read nothing has the whole line to give
pub from_first : (line : List ℕ) (reader : Fields) (r : Result Settings ℕ) → awaited reader ≡ fields line → reader.at ≡ 0 → reader.line.now ≡ line → Rest (λ after. Next after (Between 2 12) (λ b. FromSets b after)) reader r → FirstLine line r
from_first line reader r all start same h =
    let Whole : Part = λ after. Next after (Between 2 12) (λ b. FromSets b after) in
    subst (λ l. Whole (length l + 1) (fields line) 1 r) same
    (subst (λ fs. Whole (length reader.line.now + 1) fs 1 r) all
    (subst (λ a. Whole (length reader.line.now + 1) (awaited reader) (a + 1) r) start h))

-- three right fields, and four
pub three_right : (line : List ℕ) (at₀ at₁ at₂ at₃ : Fields) (b s W : ℕ) (r : Result Settings ℕ) → awaited at₀ ≡ fields line → at₀.at ≡ 0 → at₀.line.now ≡ line → Got (Between 2 12) at₀ at₁ (Ok b) → Got (Between 0 10) at₁ at₂ (Ok s) → Got (Between 1 16) at₂ at₃ (Ok W) → Rest (FromSlots b s W) at₃ r → FirstLine line r
three_right line at₀ at₁ at₂ at₃ b s W r all start same gb gs gw rest =
    from_first line at₀ r all start same
    (right (Between 2 12) FromSets at₀ at₁ b r gb
    (right (Between 0 10) (FromWays b) at₁ at₂ s r gs
    (right (Between 1 16) (FromSlots b s) at₂ at₃ W r gw rest)))

pub four_right : (line : List ℕ) (at₀ at₁ at₂ at₃ at₄ : Fields) (b s W k n : ℕ) (r : Result Settings ℕ) → awaited at₀ ≡ fields line → at₀.at ≡ 0 → at₀.line.now ≡ line → n ≡ 8 - s → Got (Between 2 12) at₀ at₁ (Ok b) → Got (Between 0 10) at₁ at₂ (Ok s) → Got (Between 1 16) at₂ at₃ (Ok W) → Got (Between 1 n) at₃ at₄ (Ok k) → Rest (FromFormat b s W k) at₄ r → FirstLine line r
four_right line at₀ at₁ at₂ at₃ at₄ b s W k n r all start same most gb gs gw gk rest =
    three_right line at₀ at₁ at₂ at₃ b s W r all start same gb gs gw
    (right (Slots s) (FromFormat b s W) at₃ at₄ k r (slots s n at₃ at₄ (Ok k) most gk) rest)

-- the end of the line, or one field too many
pub at_end : (reader : Fields) (b s W k : ℕ) (f : Format) (p : PolicyName) (x : Settings) → awaited reader ≡ [] → Chosen b s W k f p x → Rest (FromEnd b s W k f p) reader (Ok x)
at_end reader b s W k f p x none chosen = subst (λ fs. End (Chosen b s W k f p) fs (reader.at + 1) (Ok x)) (sym none) chosen

pub too_many : (reader : Fields) (b s W k : ℕ) (f : Format) (p : PolicyName) (c : ℕ) (r : Result Settings ℕ) → r ≡ Err c → Ended reader (Err c) → Rest (FromEnd b s W k f p) reader r
too_many reader b s W k f p c r is more = subst (λ fs. End (Chosen b s W k f p) fs (reader.at + 1) r) (sym more.2) (is ∙ ap Err more.3)

-- a text with no lines has an empty first line, whose first field is wrong
pub empty_first : (ls : List (List ℕ)) → ls ≡ [] → FirstLine (first_of ls) (Err 1)
empty_first ls none = subst (λ ks. FirstLine (first_of ks) (Err 1)) (sym none) (inr ((λ x h. let some = h.0.0.some in omega arith), refl))
