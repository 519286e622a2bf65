use Rattle.std.proofs.Common.{◌≡◌, ◌/◌, ◌<◌, length, Some, refl, sym, ap, ◌∙◌, arith}
use Rattle.std.proofs.lemmas.Result.{IfOk-weaker, on_err_weaker, on_ok_weaker}
use Rattle.std.specs.BTreeMap.{is_at}
use Rattle.std.specs.Map.{lookup}
use Rattle.std.specs.Option.{option_copied_mut}
use Rattle.std.specs.Ordering.{nat_cmp}
use Rattle.wm_chunks.proofs.Joining.{Changes, changed_values, found_in, found_none, joined_kept, set_chunks}
use Rattle.wm_chunks.specs.Numbers.{AreChunks, entries_found, joined}
use Rattle.wm_chunks.proofs.chunks.put.Given as given
use Rattle.wm_chunks.proofs.chunks.put.Goals as goal

found : (g : given.Over) (c : goal.After-chunks-in-Some-1 g) → lookup (is_at (nat_cmp (c.args.number / 32))) c.args.chunks.now.entries ≡ Some c.in-Some.chunk.now
found g c = sym c.get_mut.ensures.value ∙ ap option_copied_mut c.in-Some.is

changes : (g : given.Over) (c : goal.After-chunks-in-Some-1 g) → Changes (c.args.number / 32) (Some c.insert.new.chunk) c.args.chunks.now.entries (c.get_mut.follows.lender c.insert.new.chunk).entries
changes g c = ((c.get_mut.follows.holds c.insert.new.chunk).3 (rw (found g c) refl)).0

chunks : (g : given.Over) (c : goal.After-chunks-in-Some-1 g) → AreChunks (c.get_mut.follows.lender c.insert.new.chunk).entries
chunks g c =
    let some : 0 < length c.in-Some.chunk.now.items = (c.requires.own (c.args.number / 32) c.in-Some.chunk.now (found g c)).1 in
    let more = c.insert.ensures.more in
    set_chunks c.args.chunks.now.entries (c.get_mut.follows.lender c.insert.new.chunk).entries (c.args.number / 32) c.insert.new.chunk c.requires (c.get_mut.follows.holds c.insert.new.chunk).4
    c.insert.ensures.chunk (omega (arith, some, more)) (changes g c)

pub returns-in-Some-clause-chunks : goal.returns-in-Some-clause-chunks
returns-in-Some-clause-chunks g c = chunks g c

pub returns-in-Some-clause-old : goal.returns-in-Some-clause-old
returns-in-Some-clause-old g c =
    IfOk-weaker c.insert.result _ _ (λ old is. is ∙ sym (found_in c.args.chunks.now.entries c.args.number c.in-Some.chunk.now c.requires (found g c))) c.insert.ensures.old

pub returns-in-Some-clause-sets : goal.returns-in-Some-clause-sets
returns-in-Some-clause-sets g c =
    on_ok_weaker c.insert.result
    (λ sets. changed_values c.args.chunks.now.entries (c.get_mut.follows.lender c.insert.new.chunk).entries c.args.number (Some c.insert.new.chunk) (Some c.args.value) c.requires (chunks g c) (changes g c)
    (rw (found g c) sets))
    c.insert.ensures.sets

pub returns-in-Some-clause-err : goal.returns-in-Some-clause-err
returns-in-Some-clause-err g c =
    on_err_weaker c.insert.result
    (λ same. ap joined (c.get_mut.follows.holds c.insert.new.chunk).0
    ∙ joined_kept (is_at (nat_cmp (c.args.number / 32))) c.args.chunks.now.entries c.in-Some.chunk.now c.insert.new.chunk (found g c) same)
    c.insert.ensures.err

pub begin_chunk-requires-clause-none : goal.begin_chunk-requires-clause-none
begin_chunk-requires-clause-none g c =
    ap (λ m. entries_found (lookup (is_at (nat_cmp (c.args.number / 32))) m.entries)) c.get_mut.follows.holds-at-none
    ∙ ap entries_found (sym c.get_mut.ensures.value ∙ ap option_copied_mut c.in_default.is)

pub returns-clause-old : goal.returns-clause-old
returns-clause-old g c = sym (found_none c.args.chunks.now.entries c.args.number c.requires (sym c.get_mut.ensures.value ∙ ap option_copied_mut c.in_default.is))
