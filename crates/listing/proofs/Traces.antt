-- A trace, line after line: what is still to come gives the whole.
use Rattle.std.proofs.Common.{◌≡◌, ℕ, ◌+◌, List, ◌∷◌, Ok, Err, Result, sym, ap, subst, inl, inr, arith}
use Rattle.notations.specs.Formats.{grammar_of}
use Rattle.notations.specs.Grammar.{Reading, told, Means}
use Rattle.notations.specs.Layers.{paired}
use Rattle.notations.specs.declared.fault.LineFault.{LineFault}
use Rattle.notations.specs.declared.line.Record.{Record}
use Rattle.listing.specs.Counting.{RecordCounted, LineCounted, TraceCounted}
use Rattle.listing.specs.Touches.{Counted}
use Rattle.listing.specs.Trace.{Ending, stopped, Traced}
use Rattle.listing.specs.declared.first.Settings.{Settings}

-- what a record's line says
abbrev reading : Record → Reading
reading a = record { kind = a.kind; address = a.address.0; size = a.size; digits = a.digits.now; column = a.column }

pub line_read : (x : Settings) (k : ℕ) (taken line counts : List ℕ) (a : Record) (r : Result (Unit {0}) LineFault) → Means (grammar_of x.format) line (told (reading a)) → RecordCounted x.geometry.b x.geometry.s k taken a r counts → LineCounted x k taken line r counts
line_read x k taken line counts a (Ok u) h c = (c.0, c.2, λ ls n after end t. (told (reading a), h, inl (c.0, c.1, t)))
line_read x k taken line counts a (Err f) h c =
    let full = c.2 in
    (full.0, full.4, λ ls n. (told (reading a), h, inr (full.1, full.2, full.3, (λ i. stopped (c.0 i) n (c.1 i)))))

-- what a line's counting says under equal settings
pub line_under : (y x : Settings) (line before after : List ℕ) (r : Result (Unit {0}) LineFault) → y ≡ x → ((taken : List ℕ) → Counted y.geometry.s before taken → LineCounted y y.k taken line r after) → (taken : List ℕ) → Counted x.geometry.s before taken → LineCounted x x.k taken line r after
line_under y x line before after r same h = subst (λ (z : Settings). (taken : List ℕ) → Counted z.geometry.s before taken → LineCounted z z.k taken line r after) same h

-- The lines from `ls` on, of number n, with `taken` by then, give the trace of all the lines from the first on.
pub record Open (x : Settings) (k : ℕ) (all : List (List ℕ)) (first : ℕ) (start : List ℕ) (ls : List (List ℕ)) (n : ℕ) (counts : List ℕ) : Type 0 where
  pub taken : List ℕ
  pub counted : Counted x.geometry.s counts taken
  pub onward : (after : List ℕ) (end : Ending) → Traced (grammar_of x.format) x.geometry.b x.geometry.s k ls n taken after end → Traced (grammar_of x.format) x.geometry.b x.geometry.s k all first start after end

pub open_more : (x : Settings) (k : ℕ) (all : List (List ℕ)) (first : ℕ) (start : List ℕ) (ls rest : List (List ℕ)) (line : List ℕ) (n m : ℕ) (counts counts' : List ℕ) (o : Open x k all first start ls n counts) → ls ≡ line ∷ rest → m ≡ n + 1 → LineCounted x k o.taken line (Ok tt) counts' → Open x k all first start rest m counts'
open_more x k all first start ls rest line n m counts counts' o e f next = record {
  taken = next.0;
  counted = next.1;
  onward = λ after end t. o.onward after end (subst (λ ks. Traced (grammar_of x.format) x.geometry.b x.geometry.s k ks n o.taken after end) (sym e) (next.2 rest n after end (subst (λ j. Traced (grammar_of x.format) x.geometry.b x.geometry.s k rest j next.0 after end) f t)));
}

pub open_stop : (x : Settings) (k : ℕ) (all : List (List ℕ)) (first : ℕ) (start : List ℕ) (ls rest : List (List ℕ)) (line : List ℕ) (n : ℕ) (counts counts' : List ℕ) (f : LineFault) (o : Open x k all first start ls n counts) → ls ≡ line ∷ rest → LineCounted x k o.taken line (Err f) counts' → TraceCounted x k start all first (Err (record { fault = f; line = n })) counts'
open_stop x k all first start ls rest line n counts counts' f o e stop =
    (stop.0, o.onward stop.0 (stopped f.cause n f.column) (subst (λ ks. Traced (grammar_of x.format) x.geometry.b x.geometry.s k ks n o.taken stop.0 (stopped f.cause n f.column)) (sym e) (stop.2 rest n)), stop.1)

-- what stood beside an error was put there
pub unpaired_ok : {T E K : Type 0} (r : Result T E) (known : K) (x : T) → paired r known ≡ Ok x → r ≡ Ok x
unpaired_ok (Ok y) known x e = cc
unpaired_ok (Err y) known x e = let z : ◌≡◌ {A = ℕ} 0 1 = cc in absurd (omega arith)

pub unpaired_err : {T E K : Type 0} (r : Result T E) (known : K) (f : E × K) → paired r known ≡ Err f → (r ≡ Err f.0) × (known ≡ f.1)
unpaired_err (Ok y) known f e = let z : ◌≡◌ {A = ℕ} 0 1 = cc in absurd (omega arith)
unpaired_err (Err y) known f e = let s : (y, known) ≡ f = cc in (ap (λ p. Err p.0) s, ap (λ p. p.1) s)
