use mathlib.Core.Path.{ap, ◌∙◌, refl}
use Prim.Native.Nat.{ℕ, ◌/◌}
use Rattle.list_index.specs.Index.{bucket_size}
use Rattle.list_index.proofs.Hashes.{bucket_in}
use Rattle.list_index.proofs.listed_bucket.Goals as goal

pub returns : goal.returns
returns c = let e = c.bucket_at.ensures ∙ ap (λ (h : ℕ). h / bucket_size) c.hash_of-hash.ensures in (e, bucket_in _ _ _ e refl)
