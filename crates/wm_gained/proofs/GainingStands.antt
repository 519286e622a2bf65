-- The records stand for the state in which a log gained entries.
use Rattle.std.proofs.Common.{◌≡◌, ℕ, true, List}
use Rattle.wm_graph.specs.Parts.{Parts}
use Rattle.wm_graph.specs.Rules.{keep_rules}
use Rattle.wm_spec.specs.Lists.{Entry}
use Rattle.wm_state.specs.State.{with_gained, with_space, Durable}
use Rattle.wm_state.specs.Standing.{CountersStand, Stands}
use Rattle.wm_written.proofs.LongerLogs.{Stands-longer}
use Rattle.wm_gained.specs.Gaining.{Gained}
use Rattle.wm_gained.proofs.Gained.{longer_gained}
use Rattle.wm_gained.proofs.GainingNamed.{NamedStand-gained, OwnsStand-gained}

pub Stands-gained : (p q : Parts) (s t : Durable) (n : ℕ) (es : List Entry) → Gained p q n es → Stands p s → t.spaces ≡ with_space n (with_gained es) s.spaces → t.tables ≡ s.tables → t.locks ≡ s.locks → CountersStand q t → keep_rules q ≡ true → Stands q t
Stands-gained p q s t n es g st spaces tables locks counters rules =
    Stands-longer p q s t n es (λ own. own) (longer_gained p q n es g) spaces st tables (λ fs own news. own) locks counters rules
    (NamedStand-gained p q s t n es g spaces st.rules st.spaces st.named) (OwnsStand-gained p q s t n es g spaces st.owns)
