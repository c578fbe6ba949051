-- Laws for the program's walk: what is shown of what was written back, and what is made of an input that was read. Assumes nothing.
use Rattle.std.specs.Prelude.{Ok}
use Rattle.refusals.specs.Given.{Answer, refused}
use Prim.Native.Nat.{ℕ}
use mathlib.Core.Path.{◌≡◌, refl, sym, subst, ◌∙◌}
use mathlib.Core.List.{List}
use lib.ListN.{take}
use Rattle.std.specs.Prelude.{Option, Some, None}
use Rattle.std.specs.Io.KnownBytes.{Keeps, Appends}
use Rattle.file_line.specs.declared.Rooms.{Rooms}
use Rattle.file_parts.specs.File.{Case}
use Rattle.file_reads.specs.declared.Input.TheVariants.{Failed}
use Rattle.file_reads.specs.Reads.{State, unread, InputRead}
use Rattle.file_reads.proofs.Inputs.{ends_over}
use Rattle.file_again.specs.Again.{again_for, again_at, WrittenAgain}
use Rattle.file_again.proofs.Meaning.{again_is}
use Rattle.rewrite.specs.Made.{refusal_bytes, Line, Shown, a_file, a_line, nothing, again, Made, Given, a_front, no_front, Answered}

-- r is what was answered
module _ (c : Case) (x : Rooms) (out : List ℕ) (r : Answer ℕ) (out' : List ℕ) (p : WrittenAgain c x out r out') (told : List ℕ) where
  pub show_file : (n : ℕ) → r ≡ Ok n → Shown (again_for c x out) out' told told
  show_file n e = a_file n (sym (again_is c x out r out' p) ∙ e) p.left refl

  pub show_line : (n l : ℕ) (told' : List ℕ) → r ≡ refused n l → Line told (refusal_bytes n l) told' → Shown (again_for c x out) out' told told'
  show_line n l told' e q = a_line n l (sym (again_is c x out r out' p) ∙ e) p.left q

kept : (had : Option (List ℕ)) → Keeps had had
kept None = tt
kept (Some bytes) = refl

-- what the output was given of it
module _ (c : Case) (x : Rooms) (out : List ℕ) (r : Answer ℕ) (out' : List ℕ) (p : WrittenAgain c x out r out') (had : Option (List ℕ)) where
  pub given_file : (has : Option (List ℕ)) (n : ℕ) → r ≡ Ok n → Appends had has (take n out') → Given (again_for c x out) had has
  given_file has n e w = a_front n (sym (again_is c x out r out' p) ∙ e) (subst (λ (l : List ℕ). Appends had has (take n l)) p.left w)

  pub given_nothing : (n l : ℕ) → r ≡ refused n l → Given (again_for c x out) had had
  given_nothing n l e = no_front n l (sym (again_is c x out r out' p) ∙ e) (kept had)

module _ (x : Rooms) (e : State) (r : InputRead (unread x) e) (out out' told told' : List ℕ) where
  pub made_nothing : e.input ≡ Failed → out' ≡ out → told' ≡ told → Made x out out' told told'
  made_nothing f q t = record { end = e; input = r; output = nothing f q t }

  pub made_again : (e.input ≡ Failed → ⊥) → Shown (again_at e.fed out) out' told told' → Made x out out' told told'
  made_again f q = record { end = e; input = r; output = again (ends_over _ e r f) q }

  pub answered : (had has : Option (List ℕ)) → (e.input ≡ Failed → ⊥) → Shown (again_at e.fed out) out' told told' → Given (again_at e.fed out) had has → Answered x out out' told told' had has
  answered had has f q w = record { end = e; input = r; over = ends_over _ e r f; shown = q; given = w }
