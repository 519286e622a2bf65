-- The records stand for the state that a line makes which writes entries.
use Rattle.std.proofs.Common.{◌≡◌, ℕ, true, List, ◌++◌}
use Rattle.std.proofs.lemmas.List.Elements.{All-append}
use Rattle.wm_graph.specs.Parts.{Parts}
use Rattle.wm_graph.specs.Rules.{keep_rules}
use Rattle.wm_spec.specs.Lists.{Entry}
use Rattle.wm_state.specs.State.{Durable}
use Rattle.wm_state.specs.Standing.{CountersStand, FieldsStand, IsReal, Stands}
use Rattle.wm_state.specs.Writes.{WroteAll}
use Rattle.wm_written.proofs.Longer.{FieldsStand-longer}
use Rattle.wm_written.proofs.LongerLogs.{Stands-longer}
use Rattle.wm_written.proofs.WritingNamed.{NamedStand-wrote, OwnsStand-wrote}
use Rattle.wm_written.proofs.Wrote.{appended_all, longer_wrote}

-- they agree with it
pub FieldsStand-wrote_all : (p q : Parts) (s t : Durable) (n : ℕ) (es : List Entry) → WroteAll p q n es → FieldsStand p s → t.spaces ≡ appended_all n es s.spaces → t.tables ≡ s.tables → CountersStand q t → FieldsStand q t
FieldsStand-wrote_all p q s t n es w st spaces tables counters = FieldsStand-longer p q s t n es (λ own. own ++ es) (longer_wrote p q n es w) spaces st tables counters

-- entries were written: the workspace has them, and the counters are set
pub Stands-wrote_all : (p q : Parts) (s t : Durable) (n : ℕ) (es : List Entry) → WroteAll p q n es → Stands p s → t.spaces ≡ appended_all n es s.spaces → t.tables ≡ s.tables → t.locks ≡ s.locks → CountersStand q t → keep_rules q ≡ true → Stands q t
Stands-wrote_all p q s t n es w st spaces tables locks counters rules =
    Stands-longer p q s t n es (λ own. own ++ es) (longer_wrote p q n es w) spaces st tables (λ fs own news. All-append (IsReal t.tables) fs es own news) locks counters rules
    (NamedStand-wrote p q s t n es w spaces st.rules st.spaces st.named) (OwnsStand-wrote p q s t n es w spaces st.spaces st.owns)
