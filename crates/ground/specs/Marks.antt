-- The places of a ground and which of them are shut.
--   size_in  how many places there are
--   shut_in  whether a place is shut
--   free_in  whether a place is on the ground and not shut
use Rattle.std.specs.Prelude.{ℕ, Bool, false, not, ◌&&◌, nat_lt, slice_index_or}
use Rattle.arrayvec.specs.ArrayVec.{array_vec_len}
use Rattle.ground.specs.declared.places.Places.{Places}

abbrev pub size_in : Places → ℕ
size_in p = array_vec_len p.shut

abbrev pub shut_in : Places → ℕ → Bool
shut_in p k = slice_index_or p.shut.items k false

-- on a ground of n places, where `shut` are shut
abbrev pub free_under : ℕ → (ℕ → Bool) → ℕ → Bool
free_under n shut k = nat_lt k n && not (shut k)

abbrev pub free_in : Places → ℕ → Bool
free_in p = free_under (size_in p) (shut_in p)
