-- That base with own and what was there at birth with the log are alike: kept by an append, a refresh, a merge, a rollback.
use Rattle.std.proofs.Common.{◌≡◌, ℕ, zero, suc, ◌≤◌, List, [], ◌∷◌, ◌++◌, length, take, drop, Option, None, Some, is_some, if◌then◌else◌, nat_lt, refl, sym, ap, ◌∙◌, append_assoc, arith}
use Rattle.std.proofs.lemmas.List.{take-append-le, take-append-drop, append-nil}
use Rattle.std.proofs.Math.Seq.{take-length}
use Rattle.std.specs.Option.{option_or}
use Rattle.wm_spec.proofs.Lists.{told-append}
use Rattle.wm_spec.specs.Lists.{Entry, Cell, Told, told, touched, Alike, reach}
use Rattle.wm_net.specs.Nets.{IsGained}
use Rattle.wm_net.proofs.Alikes.{Alike-refl, Alike-sym, Alike-trans, Alike-append, Alike-longer}
use Rattle.wm_net.proofs.Placing.{touched-drop}

-- at a cell: own lies over what is pending, so what is gained may lie over own
gained_cell : (o p b : Option Told) → option_or o (option_or p b) ≡ option_or (if is_some o then None else p) (option_or o b)
gained_cell (Some x) p b = refl
gained_cell None p b = refl

pub lists_rebased : (old_base own pending new_base whole gained : List Entry) → Alike (old_base ++ own) whole → Alike new_base (old_base ++ pending) → IsGained own pending gained
    → Alike (new_base ++ own) (whole ++ gained)
lists_rebased old_base own pending new_base whole gained a b g = record {
  same = λ c.
      told-append new_base own c ∙ rw (b.same c, told-append old_base pending c)
      (gained_cell (told own c) (told pending c) (told old_base c)
      ∙ sym (told-append whole gained c ∙ rw (g c, sym (a.same c), told-append old_base own c) refl));
}

-- the whole is the point and what is pending
pub pending_whole : (first log : List Entry) (n : ℕ) → first ++ log ≡ (first ++ take n log) ++ drop n log
pending_whole first log n = ap (λ (l : List Entry). first ++ l) (sym (take-append-drop n log)) ∙ sym (append_assoc first (take n log) (drop n log))

-- a point of a log that grows
pub point_longer : (first log es : List Entry) (n : ℕ) → n ≤ length log → first ++ take n (log ++ es) ≡ first ++ take n log
point_longer first log es n h = ap (λ (l : List Entry). first ++ l) (take-append-le n log es h)

take_take : {A : Type 0} (n m : ℕ) (xs : List A) → n ≤ m → take n (take m xs) ≡ take n xs
take_take zero m xs h = refl
take_take (suc n) zero xs h = absurd (omega (arith, h))
take_take (suc n) (suc m) [] h = refl
take_take (suc n) (suc m) (x ∷ xs) h = ap (λ ys. x ∷ ys) (take_take n m xs (omega (arith, h)))

-- and of one that is cut behind it
pub point_cut : (first log : List Entry) (n m : ℕ) → n ≤ m → first ++ take n (take m log) ≡ first ++ take n log
point_cut first log n m h = ap (λ (l : List Entry). first ++ l) (take_take n m log h)

-- a rollback: own becomes the savepoint's, the log is cut to its length; base is alike the savepoint's, since nothing was rebased
pub rollback_law : (first base log kept_base kept_own : List Entry) (n : ℕ) → Alike (kept_base ++ kept_own) (first ++ take n log) → Alike kept_base base
    → Alike (base ++ kept_own) (first ++ take n log)
rollback_law first base log kept_base kept_own n a b =
    Alike-trans (base ++ kept_own) (kept_base ++ kept_own) (first ++ take n log)
    (Alike-append base kept_base kept_own kept_own (Alike-sym kept_base base b) (Alike-refl kept_own)) a

-- the parent's content is alike the old base with what is pending
pub parent_moved : (base p_first p_base p_own p_log : List Entry) (from : ℕ) → Alike base (p_first ++ take from p_log) → Alike (p_base ++ p_own) (p_first ++ p_log)
    → Alike (p_base ++ p_own) (base ++ drop from p_log)
parent_moved base p_first p_base p_own p_log from b q =
    let whole : Alike (p_base ++ p_own) ((p_first ++ take from p_log) ++ drop from p_log) = rw (← pending_whole p_first p_log from) q in
    Alike-trans (p_base ++ p_own) ((p_first ++ take from p_log) ++ drop from p_log) (base ++ drop from p_log) whole
    (Alike-append (p_first ++ take from p_log) base (drop from p_log) (drop from p_log) (Alike-sym base (p_first ++ take from p_log) b) (Alike-refl (drop from p_log)))

-- an append to own and log
pub append_law : (first base own log es : List Entry) → Alike (base ++ own) (first ++ log) → Alike (base ++ (own ++ es)) (first ++ (log ++ es))
append_law first base own log es a = Alike-longer base own first log es a

-- a refresh: base becomes the parent's content, the log gains
pub refresh_law : (first base own log p_first p_base p_own p_log : List Entry) (from : ℕ) (gained : List Entry)
    → Alike (base ++ own) (first ++ log) → Alike (p_base ++ p_own) (p_first ++ p_log) → Alike base (p_first ++ take from p_log) → IsGained own (drop from p_log) gained
    → Alike ((p_base ++ p_own) ++ own) (first ++ (log ++ gained))
refresh_law first base own log p_first p_base p_own p_log from gained a q b g =
    rw (sym (append_assoc first log gained))
    (lists_rebased base own (drop from p_log) (p_base ++ p_own) (first ++ log) gained a (parent_moved base p_first p_base p_own p_log from b q) g)

-- a merge: the parent takes what is net of own, then the workspace is rebased on it and has nothing of its own
pub merge_law : (first base own log p_first p_base p_own p_log : List Entry) (from : ℕ) (net gained : List Entry)
    → Alike (base ++ own) (first ++ log) → Alike (p_base ++ p_own) (p_first ++ p_log) → Alike base (p_first ++ take from p_log) → Alike net own → IsGained own (drop from p_log) gained
    → Alike ((p_base ++ (p_own ++ net)) ++ []) (first ++ (log ++ gained))
merge_law first base own log p_first p_base p_own p_log from net gained a q b n g =
    rw (append-nil (p_base ++ (p_own ++ net)), sym (append_assoc p_base p_own net))
    (Alike-trans ((p_base ++ p_own) ++ net) ((p_base ++ p_own) ++ own) (first ++ (log ++ gained))
    (Alike-append (p_base ++ p_own) (p_base ++ p_own) net own (Alike-refl (p_base ++ p_own)) n)
    (refresh_law first base own log p_first p_base p_own p_log from gained a q b g))

-- the point at which a base is taken anew
pub base_law : (p_first p_base p_own p_log : List Entry) → Alike (p_base ++ p_own) (p_first ++ p_log) → Alike (p_base ++ p_own) (p_first ++ take (length p_log) p_log)
base_law p_first p_base p_own p_log a = rw (take-length p_log) a

-- where the front of a list is overlaid, its back alone tells
pub told_back : (xs ys : List Entry) (c : Cell) → told ys c ≡ (if touched ys c then told (xs ++ ys) c else None)
told_back xs ys c = rw (told-append xs ys c) (by_told (told ys c))
  where
    by_told : (o : Option Told) → o ≡ (if is_some o then option_or o (told xs c) else None)
    by_told (Some x) = refl
    by_told None = refl

-- what is pending is what the parent holds where its last position is at least `from`
pub told_pending : (p_first p_base p_own p_log : List Entry) (from : ℕ) (c : Cell) → Alike (p_base ++ p_own) (p_first ++ p_log)
    → told (drop from p_log) c ≡ (if nat_lt from (reach p_log c) then told (p_base ++ p_own) c else None)
told_pending p_first p_base p_own p_log from c a =
    told_back (p_first ++ take from p_log) (drop from p_log) c
    ∙ rw (touched-drop from p_log c, sym (pending_whole p_first p_log from), a.same c) refl

-- what is own is what the workspace holds where own entries touch
pub told_own : (base own : List Entry) (c : Cell) → told own c ≡ (if touched own c then told (base ++ own) c else None)
told_own base own c = told_back base own c
