-- What a log keeps of entries that are gone through one by one, of tables with and without a history.
use Rattle.std.proofs.Common.{◌≡◌, ℕ, suc, ◌+◌, Bool, true, false, if◌then◌else◌, List, [], ◌∷◌, ◌++◌, length, map, refl, sym, ap, ◌∙◌, arith}
use Rattle.std.proofs.lemmas.List.{length-map, map-append}
use Rattle.wm_append.specs.Appending.{hists_if}
use Rattle.wm_spec.specs.Lists.{Entry}
use Rattle.wm_spec.specs.declared.record.Record.{Record}
use Rattle.wm_spec.specs.declared.record.Record.TheVariants as records
use Rattle.wm_spec.specs.declared.record.hist.Hist.{Hist}
use Rattle.wm_spec.specs.declared.record.table.Table.{Table}
use Rattle.wm_state.specs.Editing.{entry_of}
use Rattle.wm_state.specs.Entries.{hist_of, hists_kept}
use Rattle.wm_state.specs.Standing.{has_history}
use Rattle.wm_state.specs.declared.edit.NewEntry.{NewEntry}

no_more : (k : ℕ) → k ≡ k + 0
no_more k = omega arith

next : (k l : ℕ) → k + 1 + l ≡ k + suc l
next k l = omega arith

hists-push : (tables : List Table) (n position : ℕ) (es : List Entry) (e : Entry) → hists_kept tables n position (es ++ e ∷ []) ≡ hists_kept tables n position es ++ hists_kept tables n (position + length es) (e ∷ [])
hists-push tables n position [] e = ap (λ k. hists_kept tables n k (e ∷ [])) (no_more position)
hists-push tables n position (x ∷ es) e =
    by_history (has_history tables x.table) (hists_kept tables n (position + 1) (es ++ e ∷ [])) (hists_kept tables n (position + 1) es)
    (hists-push tables n (position + 1) es e ∙ ap (λ k. hists_kept tables n (position + 1) es ++ hists_kept tables n k (e ∷ [])) (next position (length es)))
  where
    behind : List Hist
    behind = hists_kept tables n (position + suc (length es)) (e ∷ [])

    by_history : (b : Bool) (xs ys : List Hist) → xs ≡ ys ++ behind → (if b then hist_of n position x ∷ xs else xs) ≡ (if b then hist_of n position x ∷ ys else ys) ++ behind
    by_history b xs ys is = by_cases b
      where
        by_cases : (b : Bool) → (if b then hist_of n position x ∷ xs else xs) ≡ (if b then hist_of n position x ∷ ys else ys) ++ behind
        by_cases true = ap (λ zs. hist_of n position x ∷ zs) is
        by_cases false = is

-- what a log keeps of one entry more
pub hists_more : (tables : List Table) (history : Bool) (n start at : ℕ) (xs : List NewEntry) (x : NewEntry) (before after : List Record) → before ≡ map records.Hist (hists_kept tables n start (map entry_of xs)) → at ≡ start + length xs
    → history ≡ has_history tables x.table → after ≡ before ++ map records.Hist (hists_if history n at (entry_of x ∷ [])) → after ≡ map records.Hist (hists_kept tables n start (map entry_of (xs ++ x ∷ [])))
hists_more tables history n start at xs x before after is stands kept pushed =
    pushed ∙ ap (λ rs. rs ++ map records.Hist (hists_if history n at (entry_of x ∷ []))) is
    ∙ ap (λ hs. map records.Hist (hists_kept tables n start (map entry_of xs)) ++ map records.Hist hs) (one ∙ ap (λ k. hists_kept tables n k (entry_of x ∷ [])) (stands ∙ ap (λ k. start + k) (sym (length-map xs entry_of))))
    ∙ sym (map-append records.Hist (hists_kept tables n start (map entry_of xs)) (hists_kept tables n (start + length (map entry_of xs)) (entry_of x ∷ [])))
    ∙ ap (map records.Hist) (sym (hists-push tables n start (map entry_of xs) (entry_of x)))
    ∙ ap (λ es. map records.Hist (hists_kept tables n start es)) (sym (map-append entry_of xs (x ∷ [])))
  where
    one : hists_if history n at (entry_of x ∷ []) ≡ hists_kept tables n at (entry_of x ∷ [])
    one = rw kept refl
