-- Rules that nearly agree with OPTgen's, and short traces on which they do not.
use Rattle.std.specs.Prelude.{◌≡◌, ℕ, suc, Bool, false, cond, ◌&&◌, ◌||◌, List, [], ◌∷◌, reverse, ◌==◌, nat_lt}
use Rattle.histories.specs.Rule.{tally, held, fits, raise, verdicts}
use Rattle.examples.specs.Table.{A, B, h, m}

-- A rule: what a touch of x makes of the touches before and their gaps, newest first: its verdict, and the gaps after it.
abbrev pub Rule : Type 0
Rule = ℕ → List ℕ → List ℕ → Bool × List ℕ

abbrev pub gaps_by : Rule → List ℕ → List ℕ
gaps_by r [] = []
gaps_by r (t ∷ ts) = (r t ts (gaps_by r ts)).1

abbrev pub verdicts_by : Rule → List ℕ → List Bool
verdicts_by r [] = []
verdicts_by r (t ∷ ts) = (r t ts (gaps_by r ts)).0 ∷ verdicts_by r ts

-- OPTgen's
abbrev pub optgen : ℕ → Rule
optgen W x ts os = (fits W x ts os, 0 ∷ cond (fits W x ts os) (raise x ts os) os)

-- one that counts gap t for a hit at turn t
abbrev pub own_gap : ℕ → Rule
own_gap W x ts os = (fits W x ts os, tally (fits W x ts os) ∷ cond (fits W x ts os) (raise x ts os) os)

-- one that leaves out gap p, where p is the turn of the last touch
unfoldable pub fits_after : ℕ → ℕ → List ℕ → List ℕ → Bool
fits_after W x [] os = false
fits_after W x (t ∷ ts) [] = false
fits_after W x (t ∷ ts) (o ∷ os) = x == t || (nat_lt o W && fits_after W x ts os)

unfoldable pub raise_after : ℕ → List ℕ → List ℕ → List ℕ
raise_after x [] os = os
raise_after x (t ∷ ts) [] = []
raise_after x (t ∷ ts) (o ∷ os) = cond (x == t) (o ∷ os) (suc o ∷ raise_after x ts os)

abbrev pub no_first_gap : ℕ → Rule
no_first_gap W x ts os = (fits_after W x ts os, 0 ∷ cond (fits_after W x ts os) (raise_after x ts os) os)

-- one that raises the gaps since the last touch at a miss too
abbrev pub raise_at_miss : ℕ → Rule
raise_at_miss W x ts os = (fits W x ts os, 0 ∷ cond (held x ts) (raise x ts os) os)

-- the verdicts of a rule on touches in their order
abbrev pub judged_by : Rule → List ℕ → List Bool
judged_by r xs = reverse (verdicts_by r (reverse xs))

pub record Missed : Type 0 where
  -- so written, OPTgen's rule is the one of which all else is said
  pub same : (W : ℕ) (ts : List ℕ) → verdicts_by (optgen W) ts ≡ verdicts W ts
  -- A A A at W = 1: the second hit is lost
  pub own_gap_right : judged_by (optgen 1) (A ∷ A ∷ A ∷ []) ≡ m ∷ h ∷ h ∷ []
  pub own_gap_wrong : judged_by (own_gap 1) (A ∷ A ∷ A ∷ []) ≡ m ∷ h ∷ m ∷ []
  -- A B A B at W = 1: a hit too many
  pub no_first_gap_right : judged_by (optgen 1) (A ∷ B ∷ A ∷ B ∷ []) ≡ m ∷ m ∷ h ∷ m ∷ []
  pub no_first_gap_wrong : judged_by (no_first_gap 1) (A ∷ B ∷ A ∷ B ∷ []) ≡ m ∷ m ∷ h ∷ h ∷ []
  -- A B A B A at W = 1: the miss of B spoils the verdict of the last A
  pub raise_at_miss_right : judged_by (optgen 1) (A ∷ B ∷ A ∷ B ∷ A ∷ []) ≡ m ∷ m ∷ h ∷ m ∷ h ∷ []
  pub raise_at_miss_wrong : judged_by (raise_at_miss 1) (A ∷ B ∷ A ∷ B ∷ A ∷ []) ≡ m ∷ m ∷ h ∷ m ∷ m ∷ []

abbrev pub NearMisses : Type 0
NearMisses = Missed
