-- Texts that are put together piece by piece.
use Rattle.std.proofs.Common.{◌≡◌, ℕ, List, ◌++◌, ap, ◌∙◌, append_assoc}

pub three_pieces : (s a b c p q r : List ℕ) → p ≡ s ++ a → q ≡ p ++ b → r ≡ q ++ c → r ≡ s ++ (a ++ (b ++ c))
three_pieces s a b c p q r hp hq hr = hr ∙ ap (λ x. x ++ c) (hq ∙ ap (λ x. x ++ b) hp) ∙ append_assoc (s ++ a) b c ∙ append_assoc s a (b ++ c)
