-- Lines of a part, and the same bytes fed one by one. Assumes nothing.
use Rattle.std.specs.Prelude.{Ok, Err}
use Rattle.refusals.specs.Given.{Answer, Fault, refusal, refused, refuse, or_else}
use mathlib.Core.Path.{◌≡◌, refl, sym, ◌∙◌, ap}
use mathlib.Core.Bool.{Bool, true, false, cond, not}
use mathlib.Core.List.{List, [], ◌∷◌, ◌++◌, append_assoc, append-nil}
use Prim.Native.Nat.{ℕ, zero, suc, ◌+◌, ◌-◌, ◌≤◌, ◌<◌}
use native.Mathlib.Omega.{arith}
use native.Mathlib.Numerals.{add-one}
use native.Mathlib.Nat.{not-suc-le-zero}
use lib.Dec.{leb, ltb, eqb}
use lib.ListN.{length, take, drop, get_or, length-append, length-drop}
use lib.Seq.{drop-cons, drop-drop, take_all}
use borrow.Author.Tests.{leb-true, leb-false, eq-eqb, ne_eqb, lt-ltb, le-ltb, eqb-true, eqb-false, ltb-true, ltb-false}
use Rattle.file_digits.specs.Frame.{line_limit, line_feed}
use Rattle.file_line.specs.declared.Reading.{Reading}
use Rattle.file_line.specs.declared.Rooms.{Rooms}
use Rattle.file_line.specs.Read.{line_here, line_of, rooms_of, judge_of, advanced, stored}
use Rattle.file_line.specs.Walk.{Large}
use Rattle.refusals.proofs.Chains.{refused_one}
use Rattle.file_line.proofs.Meaning as meaning
use Rattle.file_parts.specs.File.{finish_of, going, stopped, Both, both, ended, fed_to, feed_of, feed_all, together, feed_parts, line_len, NoFeed}
use Rattle.file_parts.specs.Held.{hold_of}

-- a turn of the search for the line feed
pub len_more : (f : List ℕ) (e : ℕ) → e < length f → (get_or f e 0 ≡ line_feed → ⊥) → line_len (drop e f) ≡ suc (line_len (drop (e + 1) f))
unfolding line_len
len_more f e h n = rw (add-one, drop-cons f e 0 h) (simp (ne_eqb _ _ n))

pub len_stop : (f : List ℕ) (e : ℕ) → e < length f → get_or f e 0 ≡ line_feed → line_len (drop e f) ≡ 0
unfolding line_len
len_stop f e h n = rw (drop-cons f e 0 h) (simp (eq-eqb _ _ n))

pub len-end : (f : List ℕ) (e : ℕ) → length f ≤ e → line_len (drop e f) ≡ 0
unfolding line_len
len-end [] zero h = refl
len-end [] (suc e) h = refl
len-end (x ∷ f) zero h = absurd (not-suc-le-zero h)
len-end (x ∷ f) (suc e) h = len-end f e (omega arith)

pub len_most : (bs : List ℕ) → line_len bs ≤ length bs
unfolding line_len
len_most [] = omega arith
len_most (b ∷ bs) = go (eqb b line_feed) (len_most bs) where
  go : (a : Bool) → line_len bs ≤ length bs → cond a 0 (suc (line_len bs)) ≤ suc (length bs)
  go true h = omega arith
  go false h = omega arith

nofeed_cons : (b : ℕ) (d : List ℕ) → NoFeed (b ∷ d) → (b ≡ line_feed → ⊥) × NoFeed d
unfolding line_len
nofeed_cons b d = go (eqb b line_feed) refl where
  go : (a : Bool) → eqb b line_feed ≡ a → cond a 0 (suc (line_len d)) ≡ suc (length d) → (b ≡ line_feed → ⊥) × NoFeed d
  go true e h = absurd (omega arith)
  go false e h = (eqb-false _ _ e, omega arith)

-- the line, its line feed, and the rest
pub len_take : (bs : List ℕ) → NoFeed (take (line_len bs) bs)
unfolding line_len
len_take [] = refl
len_take (b ∷ bs) = go (eqb b line_feed) refl (len_take bs) where
  go : (a : Bool) → eqb b line_feed ≡ a → NoFeed (take (line_len bs) bs) → NoFeed (take (cond a 0 (suc (line_len bs))) (b ∷ bs))
  go true e h = refl
  go false e h = simp e (ap suc h)

pub len_split : (bs : List ℕ) → line_len bs < length bs → bs ≡ take (line_len bs) bs ++ line_feed ∷ drop (suc (line_len bs)) bs
unfolding line_len
len_split [] h = absurd (not-suc-le-zero h)
len_split (b ∷ bs) h = go (eqb b line_feed) refl h (λ k. len_split bs k) where
  go : (a : Bool) → eqb b line_feed ≡ a → cond a 0 (suc (line_len bs)) < suc (length bs)
      → (line_len bs < length bs → bs ≡ take (line_len bs) bs ++ line_feed ∷ drop (suc (line_len bs)) bs)
      → b ∷ bs ≡ take (cond a 0 (suc (line_len bs))) (b ∷ bs) ++ line_feed ∷ drop (suc (cond a 0 (suc (line_len bs)))) (b ∷ bs)
  go true e h r = ap (λ (x : ℕ). x ∷ bs) (eqb-true _ _ e)
  go false e h r = ap (λ (l : List ℕ). b ∷ l) (r (omega arith))

-- the byte step, by its cases
module _ (s : Reading) (d : List ℕ) (x : Rooms) (b : ℕ) where
  pub feed_push : (b ≡ line_feed → ⊥) → length d < line_limit → feed_of (both (going s d) x) b ≡ both (going s (d ++ (b ∷ []))) x
  unfolding fed_to
  feed_push k m = simp (ne_eqb _ _ k, lt-ltb _ _ m)

  pub feed_long : (b ≡ line_feed → ⊥) → line_limit ≤ length d → feed_of (both (going s d) x) b ≡ both (stopped 11 (s.line + 1)) x
  unfolding fed_to
  feed_long k l = simp (ne_eqb _ _ k, le-ltb _ _ l)

pub feed_line : (s : Reading) (d : List ℕ) (x : Rooms) → feed_of (both (going s d) x) line_feed ≡ both (ended (line_of s d x)) (rooms_of s d x)
unfolding fed_to
feed_line s d x = refl

-- after a refusal nothing changes
pub stays : (n l : ℕ) (x : Rooms) (bs : List ℕ) → feed_all (both (stopped n l) x) bs ≡ both (stopped n l) x
unfolding feed_all fed_to
stays n l x [] = refl
stays n l x (b ∷ bs) = stays n l x bs

-- a line fed to its end, by what it is judged
module _ (s : Reading) (d : List ℕ) (x : Rooms) where
  pub line_taken : judge_of s d x ≡ Ok tt → feed_of (both (going s d) x) line_feed ≡ both (going (advanced s d) []) (stored s d x)
  line_taken j = let l = meaning.taken_line s d x j in feed_line s d x ∙ rw (l.0, l.1)

-- a file in two parts
pub all_append : (z : Both) (cs bs : List ℕ) → feed_all z (cs ++ bs) ≡ feed_all (feed_all z cs) bs
unfolding feed_all
all_append z [] bs = refl
all_append z (a ∷ cs) bs = all_append (feed_of z a) cs bs

-- any cutting into parts: the parts read one after another come to what the file does
pub any_cutting : (z : Both) (parts : List (List ℕ)) → feed_parts z parts ≡ feed_all z (together parts)
unfolding feed_parts together feed_all
any_cutting z [] = refl
any_cutting z (part ∷ parts) = any_cutting (feed_all z part) parts ∙ sym (all_append z part (together parts))

-- bytes with no line feed are held
pub held : (s : Reading) (x : Rooms) (d l rest : List ℕ) → length l + length d ≤ line_limit → NoFeed d
    → feed_all (both (going s l) x) (d ++ rest) ≡ feed_all (both (going s (l ++ d)) x) rest
unfolding feed_all
held s x [] l rest h t = ap (λ (q : List ℕ). feed_all (both (going s q) x) rest) (sym (append-nil l))
held s x (b ∷ d) l rest h t =
    let u = nofeed_cons b d t in
    let z : length (l ++ (b ∷ [])) ≡ length l + 1 = length-append l (b ∷ []) in
    ap (λ (q : Both). feed_all q (d ++ rest)) (feed_push s l x b u.0 (omega arith))
    ∙ held s x d (l ++ (b ∷ [])) rest (omega arith) u.1
    ∙ ap (λ (q : List ℕ). feed_all (both (going s q) x) rest) (append_assoc l (b ∷ []) d)

-- a line that is too long
pub long : (s : Reading) (x : Rooms) (d l rest : List ℕ) → length l ≤ line_limit → line_limit < length l + length d → NoFeed d
    → feed_all (both (going s l) x) (d ++ rest) ≡ both (stopped 11 (s.line + 1)) x
unfolding feed_all
long s x [] l rest h k t = absurd (omega arith)
long s x (b ∷ d) l rest h k t =
    let u = nofeed_cons b d t in
    let z : length (l ++ (b ∷ [])) ≡ length l + 1 = length-append l (b ∷ []) in
    go (ltb (length l) line_limit) refl (λ q. long s x d (l ++ (b ∷ [])) rest (omega arith) (omega arith) u.1) u.0 where
      go : (a : Bool) → ltb (length l) line_limit ≡ a
          → (length l < line_limit → feed_all (both (going s (l ++ (b ∷ []))) x) (d ++ rest) ≡ both (stopped 11 (s.line + 1)) x) → (b ≡ line_feed → ⊥)
          → feed_all (feed_of (both (going s l) x) b) (d ++ rest) ≡ both (stopped 11 (s.line + 1)) x
      go true e r n = ap (λ (q : Both). feed_all q (d ++ rest)) (feed_push s l x b n (ltb-true _ _ e)) ∙ r (ltb-true _ _ e)
      go false e r n = ap (λ (q : Both). feed_all q (d ++ rest)) (feed_long s l x b n (ltb-false _ _ e)) ∙ stays 11 (s.line + 1) x (d ++ rest)

-- a piece of a line, held or refused
pub holds : (s : Reading) (x : Rooms) (d l rest : List ℕ) → length l ≤ line_limit → NoFeed d
    → feed_all (both (going s l) x) (d ++ rest) ≡ feed_all (both (hold_of s l d) x) rest
unfolding hold_of
holds s x d l rest h t = go (leb (length l + length d) line_limit) refl where
  go : (a : Bool) → leb (length l + length d) line_limit ≡ a → feed_all (both (going s l) x) (d ++ rest) ≡ feed_all (both (hold_of s l d) x) rest
  go true e = rw e (held s x d l rest (leb-true _ _ e) t)
  go false e = rw e (long s x d l rest h (leb-false _ _ e) t ∙ sym (stays 11 (s.line + 1) x rest))

-- what a line's answer says
line_next : (s t : Reading) (d : List ℕ) (x : Rooms) → Ok t ≡ line_of s d x → length d ≤ line_limit
line_next s t d x e = go (judge_of s d x) refl
  where
    go : (f : Fault) → judge_of s d x ≡ f → length d ≤ line_limit
    go (Ok _) j = ((meaning.taken_exactly s d x).0 j).ruled.most
    go (Err r) j = let l = (meaning.refused_line s d x r.number r.at j).0 in let q : ◌≡◌ {A = ℕ} 0 1 = cc in absurd (omega arith)

line_refused : (s : Reading) (d : List ℕ) (x : Rooms) (n l : ℕ) → refused n l ≡ line_of s d x → (judge_of s d x ≡ Err (refusal n l)) × (rooms_of s d x ≡ cond (eqb n 17) (stored s d x) x)
line_refused s d x n l e = go (judge_of s d x) refl
  where
    go : (f : Fault) → judge_of s d x ≡ f → (judge_of s d x ≡ Err (refusal n l)) × (rooms_of s d x ≡ cond (eqb n 17) (stored s d x) x)
    go (Ok _) j = let l = (meaning.taken_line s d x j).0 in let q : ◌≡◌ {A = ℕ} 0 1 = cc in absurd (omega arith)
    go (Err r) j =
        let i = meaning.refused_line s d x r.number r.at j in
        let z = refused_one {A = Reading} r.number r.at n l (sym i.0 ∙ sym e) in
        (j ∙ rw (z.0, z.1), rw z.0 at i.1)

-- a whole line, read at once, comes to what its bytes and its line feed come to
module _ (s : Reading) (x : Rooms) (d rest : List ℕ) (t : NoFeed d) where
  pub next_line : (u : Reading) → Ok u ≡ line_of s d x
      → feed_all (both (going s []) x) (d ++ line_feed ∷ rest) ≡ feed_all (both (going u []) (rooms_of s d x)) rest
  unfolding feed_all
  next_line u e =
      let h : length d ≤ line_limit = line_next s u d x e in
      held s x d [] (line_feed ∷ rest) (omega arith) t
      ∙ ap (λ (q : Both). feed_all q rest) (feed_line s d x ∙ ap (λ (q : Answer Reading). both (ended q) (rooms_of s d x)) (sym e))

  pub refused_line : (n l : ℕ) → refused n l ≡ line_of s d x
      → feed_all (both (going s []) x) (d ++ line_feed ∷ rest) ≡ both (stopped n l) (rooms_of s d x)
  unfolding feed_all
  refused_line n l e = go (leb (length d) line_limit) refl where
    go : (a : Bool) → leb (length d) line_limit ≡ a → feed_all (both (going s []) x) (d ++ line_feed ∷ rest) ≡ both (stopped n l) (rooms_of s d x)
    go true z =
        let h : length d ≤ line_limit = leb-true _ _ z in
        held s x d [] (line_feed ∷ rest) (omega arith) t
        ∙ ap (λ (q : Both). feed_all q rest) (feed_line s d x ∙ ap (λ (q : Answer Reading). both (ended q) (rooms_of s d x)) (sym e))
        ∙ stays n l (rooms_of s d x) rest
    go false z =
        let h : line_limit < length d = leb-false _ _ z in
        let says = line_refused s d x n l e in
        let j = refused_one {A = Unit} 11 (line_here s) n l (sym (meaning.digits_most s d x h) ∙ says.0) in
        rw (says.1, ← j.0, ← j.1) (long s x d [] (line_feed ∷ rest) (omega arith) (omega arith) t)

-- the line that starts at `at` and ends at e
abbrev pub part : List ℕ → ℕ → ℕ → List ℕ
part f at e = take (e - at) (drop at f)

module _ (f : List ℕ) (at e : ℕ) (h : e ≡ at + line_len (drop at f)) (l : at ≤ length f) where
  pub bounds : (at ≤ e) × (e ≤ length f)
  bounds = let m = len_most (drop at f) in (omega arith, omega (arith, m, length-drop at f))

  same : e - at ≡ line_len (drop at f)
  same = omega arith

  pub clear : NoFeed (part f at e)
  clear = rw same (len_take (drop at f))

  pub split : e < length f → drop at f ≡ part f at e ++ line_feed ∷ drop (e + 1) f
  split k =
      let m : line_len (drop at f) < length (drop at f) = omega (arith, length-drop at f) in
      let q : at + suc (line_len (drop at f)) ≡ e + 1 = omega arith in
      len_split (drop at f) m ∙ ap (λ (n : ℕ). take n (drop at f) ++ line_feed ∷ drop (suc (line_len (drop at f))) (drop at f)) (sym same)
      ∙ ap (λ (r : List ℕ). part f at e ++ line_feed ∷ r) (drop-drop (suc (line_len (drop at f))) at f ∙ ap (λ (n : ℕ). drop n f) q)

  pub cut : e ≡ length f → drop at f ≡ part f at e
  cut k = sym (take_all (e - at) (drop at f) (omega (arith, length-drop at f)))

-- rooms of the same lengths
pub record Same (x y : Rooms) : Type 0 where
  pub caps : length x.caps ≡ length y.caps
  pub marks : length x.marks ≡ length y.marks
  pub initial : length x.initial ≡ length y.initial
  pub pre : length x.pre ≡ length y.pre
  pub post : length x.post ≡ length y.post
  pub word : length x.word ≡ length y.word

pub large : (x y : Rooms) → Same x y → Large y → Large x
large x y s l = record { caps = omega arith; marks = omega arith; initial = omega arith; pre = omega arith; post = omega arith; word = omega arith }

-- the end of a file, as a chain
pub finish_chain : (s : Reading) → or_else (refuse (not (eqb s.phase 5)) 12 (s.line + 1)) (Ok s) ≡ finish_of s
unfolding finish_of
finish_chain s = go (eqb s.phase 5)
  where
    go : (b : Bool) → or_else (refuse (not b) 12 (s.line + 1)) (Ok s) ≡ cond b (Ok s) (refused 12 (s.line + 1))
    go true = refl
    go false = refl
