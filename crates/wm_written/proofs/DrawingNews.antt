-- The pieces of entries as new pieces.
use Rattle.std.proofs.Common.{◌≡◌, ℕ, ◌+◌, ◌==◌, nat_lt, nat_le, true, List, [], ◌∷◌, refl, ap, ◌∙◌}
use Rattle.std.proofs.lemmas.Bool.{eq-eqb, and_from, and_parts}
use Rattle.std.specs.List.{list_all}
use Rattle.wm_base.specs.declared.instant.TheConstants.{END}
use Rattle.wm_base.specs.declared.value.Value.{Value}
use Rattle.wm_spec.specs.Lists.{Entry}
use Rattle.wm_state.specs.Drawing.{AreNews, are_sorted, has_moments, is_for, piece_keys}
use Rattle.wm_state.specs.Entries.{AreStamped, entry_keys, piece_of, pieces_of}

-- their keys are those of the entries
pub news-keys : (version : ℕ) (es : List Entry) → piece_keys (pieces_of version es) ≡ entry_keys es
news-keys version [] = refl
news-keys version (e ∷ es) = ap (λ (ks : List (List Value)). e.key ∷ ks) (news-keys version es)

news-here : (version table stamp : ℕ) (es : List Entry) → AreStamped table stamp es → list_all (is_for version table) (pieces_of version es) ≡ true
news-here version table stamp [] stamped = refl
news-here version table stamp (e ∷ es) stamped =
    and_from (is_for version table (piece_of version e)) (list_all (is_for version table) (pieces_of version es)) (and_from (version == version) (e.table == table) (eq-eqb version version refl) (eq-eqb e.table table stamped.0.table))
    (news-here version table (stamp + 1) es stamped.1)

news-last : (version table stamp : ℕ) (es : List Entry) → AreStamped table stamp es → list_all has_moments (pieces_of version es) ≡ true
news-last version table stamp [] stamped = refl
news-last version table stamp (e ∷ es) stamped =
    and_from (has_moments (piece_of version e)) (list_all has_moments (pieces_of version es)) (and_parts (nat_lt e.from e.till) (nat_le e.till END) stamped.0.period).0 (news-last version table (stamp + 1) es stamped.1)

-- entries whose keys are sorted make new pieces
pub news-stamped : (version table stamp : ℕ) (es : List Entry) → AreStamped table stamp es → are_sorted (entry_keys es) ≡ true → AreNews version table (pieces_of version es)
news-stamped version table stamp es stamped sorted = record {
  here = news-here version table stamp es stamped;
  last = news-last version table stamp es stamped;
  sorted = ap are_sorted (news-keys version es) ∙ sorted;
}
