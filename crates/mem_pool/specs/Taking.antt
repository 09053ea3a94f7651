-- What a take answers. The call makes one take, so `seen` is what its first step found in use.
use Rattle.std.specs.Prelude.{◌≡◌, ℕ, ◌+◌, ◌<◌, ◌≤◌}
use Rattle.mem_pool.specs.declared.pool.Take.{Take}
use Rattle.mem_pool.specs.declared.pool.Take.TheVariants as take
use Rattle.mem_pool.specs.Seats.{Seated, Sees, gained, missed}

-- `peak` is as before: the take was not found to pass the capacity.
pub record IsGranted (k : ℕ) (old : Seated) (grant : ℕ) (new : Seated) : Type 0 where
  pub amount : grant ≡ k
  pub seat : new ≡ gained k old
  pub fits : new.held ≤ new.pool.cap

-- beside the `seen` that were in use, k more pass the capacity
pub record IsRefused (k : ℕ) (old : Seated) (seen : ℕ) (new : Seated) : Type 0 where
  pub cause : old.pool.cap < seen + k
  pub sees : Sees seen old
  pub seat : new ≡ missed k seen old

abbrev pub Taken : ℕ → Seated → Take → Seated → Type 0
Taken k old (take.Grant grant) new = IsGranted k old grant new
Taken k old (take.Refused seen) new = IsRefused k old seen new
