-- Only for the code's walk, tied to `held` of lists by the promise of `find`: the hash of a marking, what a transition adds to it, and the index that links the listed markings of each bucket.
use Rattle.std.specs.Prelude.{ℕ, zero, suc, ◌+◌, ◌-◌, ◌*◌, ◌/◌, ◌%◌, ◌≤◌, ◌<◌, ◌≡◌, cond, List, length, get_or, eqb}
use Rattle.net.specs.Letter.{row}
use Rattle.lists.specs.Whole.{marking_at}

-- how many buckets there are
abbrev pub bucket_count : ℕ
bucket_count = 8192

-- a hash is below this
abbrev pub hash_limit : ℕ
hash_limit = 4294967296

-- how many hashes a bucket has
abbrev pub bucket_size : ℕ
bucket_size = 524288

-- by which small numbers at any places come to lie far apart
abbrev pub factor : ℕ
factor = 374761393

-- a hash with one more number in it
abbrev pub mix_of : ℕ → ℕ → ℕ
mix_of h x = (h + x) * factor % hash_limit

-- the hash of the first n numbers of a marking
unfoldable pub mixed : List ℕ → ℕ → ℕ
mixed m zero = 0
mixed m (suc n) = mix_of (mixed m n) (get_or m n 0)

-- the hash of a marking
abbrev pub hash_of : List ℕ → ℕ
hash_of m = mixed m (length m)

-- the bucket of a marking
abbrev pub bucket_of : List ℕ → ℕ
bucket_of m = hash_of m / bucket_size

-- what a transition adds to a hash: the hash of what it puts, without that of what it takes
abbrev pub change_of : List ℕ → List ℕ → ℕ
change_of takes puts = (hash_of puts + hash_limit - hash_of takes) % hash_limit

-- the table of these, for each transition of a net
pub record Changes (P T : ℕ) (pre post changes : List ℕ) : Type 0 where
  pub long : T ≤ length changes
  pub at : (t : ℕ) → t < T → get_or changes t 0 ≡ change_of (row P t pre) (row P t post)

-- one more than the highest number below n whose bucket is b, or 0 where there is none; h tells the bucket of each
unfoldable pub latest : (ℕ → ℕ) → ℕ → ℕ → ℕ
latest h b zero = 0
latest h b (suc n) = cond (eqb (h n) b) (suc n) (latest h b n)

-- the index after n markings: for each bucket the latest of them, for each of them the one before it in its bucket
pub record Index (h : ℕ → ℕ) (n : ℕ) (heads links : List ℕ) : Type 0 where
  pub heads_are : (b : ℕ) → b < length heads → get_or heads b 0 ≡ latest h b n
  pub links_are : (k : ℕ) → k < n → get_or links k 0 ≡ latest h (h k) k

-- the index of a list of n markings of P places
pub record Indexed (P n : ℕ) (list heads links : List ℕ) : Type 0 where
  pub wide : length heads ≡ bucket_count
  pub long : n ≤ length links
  pub index : Index (λ k. bucket_of (marking_at P list k)) n heads links
