-- What the program prints of an input.
use Rattle.std.specs.Prelude.{◌≡◌, ℕ, ◌^◌, ◌<◌, ◌≤◌, ◌⊎◌, List, [], ◌∷◌, ◌++◌, length, drop, Ok, Err, codes, decimal, Result}
use Rattle.std.specs.List.{flat_map}
use Rattle.geometry.specs.Lines.{upward}
use Rattle.geometry.specs.Refusals.{number}
use Rattle.geometry.specs.declared.refusal.Refusal.{Refusal}
use Rattle.geometry.specs.declared.refusal.Refusal.TheVariants.{FirstLine as WrongFirst, Input}
use Rattle.notations.specs.Formats.{grammar_of}
use Rattle.notations.specs.Text.{lines}
use Rattle.listing.specs.Copies.{Copied}
use Rattle.listing.specs.Fields.{FirstLine}
use Rattle.listing.specs.Touches.{of_set}
use Rattle.listing.specs.Trace.{Ending, whole, stopped, Traced}
use Rattle.listing.specs.declared.first.Settings.{Settings}

-- two numbers on a line
unfoldable pub row_of : ℕ → ℕ → List ℕ
row_of j n = decimal j ++ ((32 ∷ []) ++ (decimal n ++ (10 ∷ [])))

-- the line of a set: its number and its touches
abbrev pub set_line : ℕ → List ℕ → ℕ → List ℕ
set_line s taken j = row_of j (length (of_set s j taken))

-- a heading, a line for each set from 0 upward, and a line for all touches
unfoldable pub table : ℕ → List ℕ → List ℕ
table s taken = (codes "set touches\n" ++ flat_map (set_line s taken) (upward 0 (2 ^ s))) ++ (codes "all " ++ (decimal (length taken) ++ (10 ∷ [])))

-- the line that tells a refusal, and where it stood
unfoldable pub stop : Refusal → ℕ → ℕ → List ℕ
stop cause line column = codes "stopped " ++ (decimal (number cause) ++ (codes " line " ++ (decimal line ++ (codes " column " ++ (decimal column ++ (10 ∷ []))))))

abbrev pub closing : Ending → List ℕ
closing whole = []
closing (stopped cause line column) = stop cause line column

-- the first line of a text, which may be empty, and the lines after it
abbrev pub first_of : List (List ℕ) → List ℕ
first_of [] = []
first_of (l ∷ ls) = l

-- the listing of a trace under the settings of the first line
abbrev pub Listed : Settings → List (List ℕ) → List ℕ → Type 0
Listed x ls text = (taken : List ℕ) × (end : Ending) × Traced (grammar_of x.format) x.geometry.b x.geometry.s x.k ls 2 [] taken end × (text ≡ table x.geometry.s taken ++ closing end)

-- .. or the column at which the first line is refused
abbrev pub Answered : List (List ℕ) → Result Settings ℕ → List ℕ → Type 0
Answered ls (Ok x) text = Listed x (drop 1 ls) text
Answered ls (Err column) text = text ≡ stop WrongFirst 1 column

-- What is printed: an input over 16,384 bytes is refused; else the first line chooses the settings, or is refused; else the trace is listed.
abbrev pub Printed : List ℕ → List ℕ → Type 0
Printed input text =
    ((16384 < length input) × (text ≡ stop Input 0 0))
    ⊎ ((length input ≤ 16384) × ((r : Result Settings ℕ) × FirstLine (first_of (lines input)) r × Answered (lines input) r text))

-- The text that is printed of the input is copied to the output.
abbrev pub Given : List ℕ → List ℕ → Result ℕ Refusal → List ℕ → Type 0
Given input before r after = (text : List ℕ) × Printed input text × Copied text before r after
