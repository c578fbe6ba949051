-- An answer that can be read back from its numbers is told apart by them. Assumes nothing.
use Prim.Native.Nat.{ℕ}
use mathlib.Core.Path.{◌≡◌, sym, ap, ◌∙◌}
use mathlib.Core.List.{List}

-- two values are equal if they are read back from equal numbers
pub apart : {A : Type 0} (f : A → List ℕ) (back : List ℕ → A) → ((a : A) → back (f a) ≡ a) → (a b : A) → f a ≡ f b → a ≡ b
apart f back h a b e = sym (h a) ∙ ap back e ∙ h b
