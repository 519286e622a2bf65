-- Shifts that are kept by key.
use Rattle.std.proofs.Common.{◌≡◌, Bool, true, false, cond, List, [], ◌∷◌, ◌++◌, refl, sym, ap, ◌∙◌}
use Rattle.std.proofs.lemmas.List.{append_assoc}
use Rattle.std.specs.Cmp.{Equal-is}
use Rattle.std.specs.Ordering.{is_eq}
use Rattle.std.specs.declared.alloc.Global.{Global}
use Rattle.std.specs.declared.vec.Vec.{Vec}
use Rattle.wm_base.specs.Key.{key_order}
use Rattle.wm_base.specs.Orders.{key_order-equal}
use Rattle.wm_base.specs.declared.value.Value.{Value}
use Rattle.wm_dml.specs.Moving.{shifts_of, shifts_under}
use Rattle.wm_dml.specs.declared.moving.Move.{Move}
use Rattle.wm_dml.specs.declared.moving.Shift.{Shift}

-- where one more is put under its key, what is kept of a key and what is left of it are together what they were
pub one_kept : (old next : List (List Value × Vec Shift Global)) (m : Move) (rest : List Move) (key : List Value)
    → shifts_under next key ≡ cond (is_eq (key_order m.key key)) (shifts_under old m.key ++ m.shift ∷ []) (shifts_under old key)
    → shifts_under old key ++ shifts_of key (m ∷ rest) ≡ shifts_under next key ++ shifts_of key rest
one_kept old next m rest key put = by_test (is_eq (key_order m.key key)) refl put
  where
    by_test : (b : Bool) → is_eq (key_order m.key key) ≡ b
        → shifts_under next key ≡ cond b (shifts_under old m.key ++ m.shift ∷ []) (shifts_under old key)
        → shifts_under old key ++ shifts_of key (m ∷ rest) ≡ shifts_under next key ++ shifts_of key rest
    by_test true tie put =
        let same : m.key ≡ key = key_order-equal m.key key ((Equal-is (key_order m.key key)).0 tie) in
        rw tie (sym (append_assoc (shifts_under old key) (m.shift ∷ []) (shifts_of key rest))
        ∙ ap (λ k. (shifts_under old k ++ m.shift ∷ []) ++ shifts_of key rest) (sym same)
        ∙ ap (λ ss. ss ++ shifts_of key rest) (sym put))
    by_test false tie put = rw tie (ap (λ ss. ss ++ shifts_of key rest) (sym put))
