-- A store over a station that says something.
use Rattle.std.proofs.Common.{ℕ, List}
use Rattle.wm_station.specs.History.{History, Said}
use Rattle.wm_store.specs.Stores.{IsStoreOf}
use Rattle.wm_store.specs.declared.store.Store.{Store}

-- what is said changes nothing of the file, now and after a crash
pub store_said : (store : Store) (h : History) (piece : List ℕ) (n : ℕ) → IsStoreOf store h → IsStoreOf store (Said h piece n)
store_said store h piece n is = record {
  rests = record { rests = record { here = is.rests.rests.here; left = λ c leaves. is.rests.rests.left c leaves }; counted = is.rests.counted };
  heap = is.heap;
  opens = is.opens;
}
