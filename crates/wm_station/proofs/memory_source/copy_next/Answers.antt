use Rattle.std.proofs.Common.{◌≡◌, ℕ, ◌+◌, ◌-◌, ◌≤◌, List, ◌++◌, length, take, drop, ◌∙◌, ap, arith}
use Rattle.std.proofs.lemmas.List.{take_rest, take_at, drop-drop, take-append-drop, length-take-le, length-take, length-drop}
use Rattle.wm_station.proofs.memory_source.copy_next.Goals as goal

-- a part that was copied, and the rest
copied : (bytes into new : List ℕ) (at count : ℕ) → at + count ≤ length bytes → new ≡ take count (take (length bytes - at) (drop at bytes)) → drop at bytes ≡ take count (new ++ drop count into) ++ drop (at + count) bytes
copied bytes into new at count le same =
    let whole : new ≡ take count (drop at bytes) = same ∙ ap (take count) (take_rest bytes at) in
    let size : length new ≡ count = ap length whole ∙ length-take-le count (drop at bytes) (omega (arith, length-drop at bytes)) in
    let front : take count (new ++ drop count into) ≡ take count (drop at bytes) = take_at new (drop count into) count size ∙ whole in
    let joined : take count (drop at bytes) ++ drop count (drop at bytes) ≡ drop at bytes = take-append-drop count (drop at bytes) in
    let back : drop count (drop at bytes) ≡ drop (at + count) bytes = drop-drop count at bytes in
    cc

pub returns-clause-taken : goal.returns-clause-taken
returns-clause-taken c =
    let bytes = c.args.bytes.now in
    let count = c.min-count.result in
    let within : c.args.at + count ≤ length bytes = omega (arith, length-take (length bytes - c.args.at) (drop c.args.at bytes), length-drop c.args.at bytes) in
    copied bytes c.args.into.now c.copy_from_slice.new.self c.args.at count within c.copy_from_slice.ensures.after
