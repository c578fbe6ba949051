-- Accepted exactly if the file is the frames of a net and word within the limits, and then net and word are those, for `read_case`. Assumes nothing.
use Prim.Native.Nat.{ℕ, ◌+◌, ◌*◌}
use mathlib.Core.Path.{◌≡◌, refl, sym, ap, ◌∙◌}
use mathlib.Core.List.{List}
use mathlib.Core.Logic.{◌↔◌}
use lib.ListN.{length, take}
use Rattle.ground.specs.Limits.{no_capacity}
use Rattle.net.specs.Net.{Net, net_of, Sized, Light}
use Rattle.net.specs.Letter.{Small}
use Rattle.wiring.specs.Wired.{Wired}
use Rattle.refusals.specs.Given.{Answer, refused, Fine}
use Rattle.file_line.specs.declared.Rooms.{Rooms}
use Rattle.file_line.specs.Read.{blank}
use Rattle.file_line.specs.Walk.{Large}
use Rattle.file_parts.specs.File.{Case, read_of, case_of}
use Rattle.file_mask.proofs.Masks.{bits_filed}
use Rattle.file_text.specs.Text.{pockets_count, file_of, Limited, Written, marking_in, word_in, end_of, filled, filed}
use Rattle.file_text.proofs.Meaning.{accepted_exactly, those, loose_refused, file_filed, file_read, filled_net, filled_marking, filled_word}
use Rattle.file_entry.specs.declared.CaseFile.{CaseFile}
use Rattle.file_entry.specs.Entry.{read, Came, came, Largest, read_all, laid, answered, CaseRead}
use Rattle.file_entry.proofs.Ends.{blank_large}
use Rattle.file_entry.proofs.Filed.{filed_sized, filed_light, wired_filed, filed_count}
use Rattle.file_entry.proofs.Meaning.{reads_the_fold, refused_exactly, whole_read, read_whole, read_front}

module _ (file : List ℕ) (x : Rooms) (r : Answer CaseFile) (x' : Rooms) (p : CaseRead file x r x') where
  -- read exactly where the file is one that document 01 describes
  pub read_exactly : Largest x → ((P : ℕ) × (T : ℕ) × (n : ℕ) × (r ≡ read P T n)) ↔ Written file
  read_exactly l = (
    λ e. let w = read_whole file x r x' p e.0 e.1 e.2 e.3 in (accepted_exactly blank (blank_large blank refl) file).0 (w.0, w.1),
    λ f. let a = (accepted_exactly blank (blank_large blank refl) file).1 f in (a.0.places, a.0.transitions, a.0.letters, whole_read file x r x' p l a.0 a.1),
  )

  -- then the counts and the fronts of the rooms are the file's net, initial marking and word
  pub read_those : (P T n : ℕ) → r ≡ read P T n → (f : Written file)
      → (P ≡ f.net.places) × (T ≡ f.net.transitions) × (take P x'.caps ≡ f.net.caps) × (take P x'.marks ≡ f.net.marks) × (take P x'.initial ≡ f.initial)
      × (take (T * P) x'.pre ≡ f.net.pre) × (take (T * P) x'.post ≡ f.net.post) × (take n x'.word ≡ f.word)
  read_those P T n e f =
      let w = read_whole file x r x' p P T n e in
      let t = those blank (blank_large blank refl) file w.0 w.1 f in
      let g = read_front file x r x' p P T n e in
      let q : T * P ≡ w.0.transitions * w.0.places = ap (λ (k : ℕ). k * P) (sym w.3) ∙ ap (λ (k : ℕ). w.0.transitions * k) (sym w.2) in (
        sym w.2 ∙ ap (λ (net : Net). net.places) t.0,
        sym w.3 ∙ ap (λ (net : Net). net.transitions) t.0,
        g.0.front ∙ ap (λ (k : ℕ). take k (read_all file).rooms.caps) (sym w.2) ∙ ap (λ (net : Net). net.caps) t.0,
        g.1.front ∙ ap (λ (k : ℕ). take k (read_all file).rooms.marks) (sym w.2) ∙ ap (λ (net : Net). net.marks) t.0,
        g.2.front ∙ ap (λ (k : ℕ). take k (read_all file).rooms.initial) (sym w.2) ∙ t.1,
        g.3.front ∙ ap (λ (k : ℕ). take k (read_all file).rooms.pre) q ∙ ap (λ (net : Net). net.pre) t.0,
        g.4.front ∙ ap (λ (k : ℕ). take k (read_all file).rooms.post) q ∙ ap (λ (net : Net). net.post) t.0,
        g.5.front ∙ ap (λ (k : ℕ). take k (read_all file).rooms.word) (sym w.4) ∙ t.2,
      )

  -- and the file is the text of what stands there, within the limits: what was read, written, gives the same bytes
  pub read_written : (P T n : ℕ) → r ≡ read P T n
      → (file ≡ file_of (net_of P T (take (T * P) x'.pre) (take (T * P) x'.post) (take P x'.caps) (take P x'.marks)) (take P x'.initial) (take n x'.word))
      × Limited (net_of P T (take (T * P) x'.pre) (take (T * P) x'.post) (take P x'.caps) (take P x'.marks)) (take P x'.initial) (take n x'.word)
  read_written P T n e =
      let w = read_whole file x r x' p P T n e in
      let f = (accepted_exactly blank (blank_large blank refl) file).0 (w.0, w.1) in
      let t = read_those P T n e f in
      let q = same_net P T (take (T * P) x'.pre) (take (T * P) x'.post) (take P x'.caps) (take P x'.marks) f.net t.0 t.1 t.5 t.6 t.2 t.3 in
      rw (q, t.4, t.7) (f.text, f.limited)
    where
      same_net : (P T : ℕ) (a b c k : List ℕ) (net : Net) → P ≡ net.places → T ≡ net.transitions → a ≡ net.pre → b ≡ net.post → c ≡ net.caps → k ≡ net.marks → net_of P T a b c k ≡ net
      same_net P T a b c k net p t u v w m = rw (p, t, u, v, w, m)

-- what is written, read, gives the same net, marking and word, at the fronts of the rooms
module _ (net : Net) (initial w : List ℕ) (m : Limited net initial w) (x : Rooms) where
  answered_file : (b : Rooms) → Large b
      → answered (case_of (read_of b (file_of net initial w)).run) (read_of b (file_of net initial w)).rooms x ≡ came (read net.places net.transitions (length w)) (filled x net initial w)
  answered_file b big =
      let e = file_read b big net initial w m in
      let y : Rooms = filled b net initial w in
      ap (λ (k : Case). answered k (read_of b (file_of net initial w)).rooms x) e.0
      ∙ ap (λ (z : Rooms). came (read net.places net.transitions (length w)) (laid (end_of net w) z x)) e.1
      ∙ ap (λ (n : Net). came (read net.places net.transitions (length w)) (filled x n (marking_in (end_of net w) y) (word_in (end_of net w) y))) (filled_net b big net initial w m)
      ∙ ap (λ (i : List ℕ). came (read net.places net.transitions (length w)) (filled x net i (word_in (end_of net w) y))) (filled_marking b big net initial w m)
      ∙ ap (λ (v : List ℕ). came (read net.places net.transitions (length w)) (filled x net initial v)) (filled_word b big net initial w m)

  pub written_read : (r : Answer CaseFile) (x' : Rooms) → Largest x → CaseRead (file_of net initial w) x r x'
      → (r ≡ read net.places net.transitions (length w)) × (x' ≡ filled x net initial w)
  written_read r x' l p =
      let h : came r x' ≡ came (read net.places net.transitions (length w)) (filled x net initial w)
      = reads_the_fold (file_of net initial w) x r x' p l ∙ answered_file blank (blank_large blank refl) in
      (ap (λ (z : Came). z.answer) h, ap (λ (z : Came). z.left) h)

-- a net with marks of any kind is read back as its file has it: 1 for every pocket
pub filed_read : (net : Net) (initial w : List ℕ) → Limited (filed net) initial w → (x : Rooms) (r : Answer CaseFile) (x' : Rooms) → Largest x → CaseRead (file_of net initial w) x r x'
    → (r ≡ read net.places net.transitions (length w)) × (x' ≡ filled x (filed net) initial w)
filed_read net initial w m x r x' l p =
    let q : CaseRead (file_of (filed net) initial w) x r x' = rw (file_filed net initial w) p in
    written_read (filed net) initial w m x r x' l q

-- and the file of a net that is within the limits but for a loose node is refused with 17, on the line of its last transition, whatever its marks and its word are
pub loose_file : (net : Net) (initial w : List ℕ) → Sized net → Light net → Small no_capacity net.caps → length initial ≡ net.places → Fine net.caps initial → (Wired net → ⊥)
    → (x : Rooms) (r : Answer CaseFile) (x' : Rooms) → Largest x → CaseRead (file_of net initial w) x r x' → r ≡ refused 17 (3 + pockets_count net.marks + net.transitions)
loose_file net initial w sized weights capacities marked fine loose x r x' l p =
    let q : CaseRead (file_of (filed net) initial w) x r x' = rw (file_filed net initial w) p in
    let h = loose_refused blank (blank_large blank refl) (filed net) initial w (filed_sized net sized) (filed_light net weights) capacities (bits_filed net.marks) marked fine (λ v. loose (wired_filed net v)) in
    (refused_exactly (file_of (filed net) initial w) x r x' q l 17 (3 + pockets_count (filed net).marks + net.transitions)).1 h
    ∙ ap (λ (k : ℕ). refused {A = CaseFile} 17 (3 + k + net.transitions)) (filed_count net)
