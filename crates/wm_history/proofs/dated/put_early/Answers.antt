use Rattle.std.proofs.Common.{◌≡◌, ◌<◌, ◌≤◌, ℕ, nat_le, true, false, List, Option, Some, sym, ap, ◌∙◌, arith}
use Rattle.std.proofs.lemmas.Result.{on_ok_weaker}
use Rattle.std.specs.Option.{option_and_then}
use Rattle.wm_graph.specs.Parts.{as_hist}
use Rattle.wm_history.proofs.Laying.{put_late, put_nowhere, put_piece, put_without}
use Rattle.wm_spec.specs.Records.{record_at}
use Rattle.wm_spec.specs.declared.record.Record.{Record}
use Rattle.wm_spec.specs.declared.record.hist.Hist.{Hist}
use Rattle.wm_spec.specs.declared.record.stored.Stored.{Stored}
use Rattle.wm_history.proofs.dated.put_early.Goals as goal

-- the entry of the id
found : (ss : List Stored) (id : ℕ) (o : Option Record) (x : Hist) → o ≡ record_at ss id → Some x ≡ option_and_then as_hist o → option_and_then as_hist (record_at ss id) ≡ Some x
found ss id o x at is = ap (option_and_then as_hist) (sym at) ∙ sym is

late : (m n : ℕ) → n < m → nat_le m n ≡ false
late m n less = grind (arith, less)

early : (m n : ℕ) → m ≤ n → nat_le m n ≡ true
early m n most = grind (arith, most)

pub returns-in_default : goal.returns-in_default
returns-in_default c = put_without c.args.image.now c.args.id c.args.date c.args.laid.now.entries (ap (option_and_then as_hist) (sym c.record.ensures) ∙ sym c.in_default.ensures)

pub returns-then-hist-date : goal.returns-then-hist-date
returns-then-hist-date c = put_late c.args.image.now c.args.id c.args.date c.in-Some.hist.now c.args.laid.now.entries (found c.args.image.now c.args.id _ c.in-Some.hist.now c.record.ensures c.in-Some.ensures) (late c.in-Some.hist.now.moment c.args.date c.if-hist-date.true)

pub returns-in_default-period_of : goal.returns-in_default-period_of
returns-in_default-period_of c = put_nowhere c.args.image.now c.args.id c.args.date c.in-Some.hist.now c.args.laid.now.entries (found c.args.image.now c.args.id _ c.in-Some.hist.now c.record.ensures c.in-Some.ensures) (λ t less. c.in_default-period_of.ensures t less)

pub returns : goal.returns
returns c =
    on_ok_weaker c.put_piece.result
    (λ put.
    put_piece c.args.image.now c.args.id c.args.date c.in-Some.hist.now c.piece_over.result c.in-Some-period_of.period c.args.laid.now.entries c.put_piece.new.laid.entries (found c.args.image.now c.args.id _ c.in-Some.hist.now c.record.ensures c.in-Some.ensures)
    (early c.in-Some.hist.now.moment c.args.date c.if-hist-date.false) (λ t less. c.in-Some-period_of.ensures t less) c.piece_over.ensures.period c.piece_over.ensures.says put)
    c.put_piece.ensures
