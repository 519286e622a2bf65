use Rattle.std.proofs.Common.{◌≡◌, ℕ, length, sym, ap, ◌∙◌, arith, true, false}
use Rattle.std.specs.Prelude.{◌==◌}
use Rattle.wm_syntax.specs.Views.{cond_view}
use Rattle.wm_grammar.specs.Meaning.{unquoted}
use Rattle.wm_terms.proofs.Texts.{unquoted_short}
use Rattle.wm_call_lines.proofs.Clauses.{clause_empty, clause_full, clause_bad, at_advanced, at_text, at_fault, read_same}
use Rattle.wm_call_lines.proofs.calls.clause.Goals as goal

pub condition_in-requires : goal.condition_in-requires
condition_in-requires c =
    let same : length c.as_slice.result.now ≡ length (unquoted c.word.result.now) = ap length (c.as_slice.ensures.value ∙ c.in_ok-bytes.ensures) in
    omega (arith, same, unquoted_short c.word.result.now, c.word.ensures.small)

pub returns-then-is_empty : goal.returns-then-is_empty
returns-then-is_empty c =
    let none : (length c.in_ok-bytes.bytes.items == 0) ≡ true = ap (λ (n : ℕ). n == 0) (sym c.in_ok-bytes.bytes.ok.0) ∙ sym c.if-is_empty.ensures in
    at_advanced c.args.cursor.now _ c.advance.new.self c.advance.ensures (clause_empty c.args.cursor.now c.in_ok-bytes.bytes.items (sym c.if-not-is.ensures) (c.in_ok-bytes.ensures ∙ ap unquoted c.word.ensures.value) none)

pub returns-in-Ok : goal.returns-in-Ok
returns-in-Ok c =
    let some : (length c.in_ok-bytes.bytes.items == 0) ≡ false = ap (λ (n : ℕ). n == 0) (sym c.in_ok-bytes.bytes.ok.0) ∙ sym c.if-is_empty.ensures in
    at_text c.args.cursor.now c.in_ok-bytes.bytes.items c.from_vec-text.result (cond_view c.in-Ok.found) c.advance-in-Ok.new.self c.from_vec-text.ensures c.advance-in-Ok.ensures
    (clause_full c.args.cursor.now c.in_ok-bytes.bytes.items (cond_view c.in-Ok.found) (sym c.if-not-is.ensures) (c.in_ok-bytes.ensures ∙ ap unquoted c.word.ensures.value) some
    (read_same c.as_slice.result.now c.in_ok-bytes.bytes.items _ c.as_slice.ensures.value c.in-Ok.ensures))

pub returns : goal.returns
returns c =
    let some : (length c.in_ok-bytes.bytes.items == 0) ≡ false = ap (λ (n : ℕ). n == 0) (sym c.in_ok-bytes.bytes.ok.0) ∙ sym c.if-is_empty.ensures in
    at_fault c.args.cursor.now c.fault-in-Err-Syntax.result c.fault-in-Err-Syntax.ensures
    (clause_bad c.args.cursor.now c.in_ok-bytes.bytes.items c.in-Err-Syntax.field-0-0 (sym c.if-not-is.ensures) (c.in_ok-bytes.ensures ∙ ap unquoted c.word.ensures.value) some
    (read_same c.as_slice.result.now c.in_ok-bytes.bytes.items _ c.as_slice.ensures.value (rw c.in-Err-Syntax.field-0-is at c.in-Err-Syntax.ensures)))
