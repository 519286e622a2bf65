-- Laws on what was said over a stretch of a run.
use Rattle.std.proofs.Common.{ℕ, ◌≡◌, ◌<◌, List, [], ◌∷◌, ◌++◌, length, take, drop, refl, ap, sym, subst, ◌∙◌, inl, inr, append_assoc, append-nil}
use Rattle.std.proofs.lemmas.List.{take-append-drop}
use Rattle.wm_station.specs.History.{History, Said, now, said, Leaves, MayHaveSaid}
use Rattle.wm_host.specs.Saying.{after_says, said_by, OnlySaid, SaidPart}

after_says-append : (h : History) (xs ys : List (List ℕ × ℕ)) → after_says h (xs ++ ys) ≡ after_says (after_says h xs) ys
after_says-append h [] ys = refl
after_says-append h (x ∷ xs) ys = after_says-append (Said h x.0 x.1) xs ys

said_by-append : (xs ys : List (List ℕ × ℕ)) → said_by (xs ++ ys) ≡ said_by xs ++ said_by ys
said_by-append [] ys = refl
said_by-append (x ∷ xs) ys = ap (λ (out : List ℕ). take x.1 x.0 ++ out) (said_by-append xs ys) ∙ sym (append_assoc (take x.1 x.0) (said_by xs) (said_by ys))

pub said_nothing : (h : History) → OnlySaid h h []
said_nothing h = record { calls = []; told = refl; out_is = refl }

pub said_once : (old new : History) (piece : List ℕ) (n : ℕ) → new ≡ Said old piece n → OnlySaid old new (take n piece)
said_once old new piece n told = record { calls = (piece, n) ∷ []; told = told; out_is = sym (append-nil (take n piece)) }

pub said_more : (a b c : History) (xs ys : List ℕ) → OnlySaid a b xs → OnlySaid b c ys → OnlySaid a c (xs ++ ys)
said_more a b c xs ys first second = record {
  calls = first.calls ++ second.calls;
  told = second.told ∙ ap (λ (h : History). after_says h second.calls) first.told ∙ sym (after_says-append a first.calls second.calls);
  out_is = ap (λ (out : List ℕ). out ++ ys) first.out_is ∙ ap (λ (out : List ℕ). said_by first.calls ++ out) second.out_is ∙ sym (said_by-append first.calls second.calls);
}

-- a say that failed said nothing
pub said_failed : (old new : History) (piece : List ℕ) → MayHaveSaid piece old new → OnlySaid old new []
said_failed old new piece (inl same) = subst (λ (h : History). OnlySaid old h []) (sym same) (said_nothing old)
said_failed old new piece (inr none) = said_once old new piece 0 none

said-after_says : (h : History) (calls : List (List ℕ × ℕ)) → said (after_says h calls) ≡ said h ++ said_by calls
said-after_says h [] = sym (append-nil (said h))
said-after_says h (call ∷ calls) = said-after_says (Said h call.0 call.1) calls ∙ append_assoc (said h) (take call.1 call.0) (said_by calls)

now-after_says : (h : History) (calls : List (List ℕ × ℕ)) → now (after_says h calls) ≡ now h
now-after_says h [] = refl
now-after_says h (call ∷ calls) = now-after_says (Said h call.0 call.1) calls

Leaves-after_says : (h : History) (calls : List (List ℕ × ℕ)) (c : List ℕ) → Leaves (after_says h calls) c ≡ Leaves h c
Leaves-after_says h [] c = refl
Leaves-after_says h (call ∷ calls) c = Leaves-after_says (Said h call.0 call.1) calls c

-- the bytes said, what a read gives and what a crash may leave behind such a stretch
pub said-only : (old new : History) (out : List ℕ) → OnlySaid old new out → said new ≡ said old ++ out
said-only old new out only = ap said only.told ∙ said-after_says old only.calls ∙ ap (λ (o : List ℕ). said old ++ o) (sym only.out_is)

pub now-only : (old new : History) (out : List ℕ) → OnlySaid old new out → now new ≡ now old
now-only old new out only = ap now only.told ∙ now-after_says old only.calls

pub Leaves-only : (old new : History) (out c : List ℕ) → OnlySaid old new out → Leaves new c → Leaves old c
Leaves-only old new out c only leaves = subst (λ (T : Type 0). T) (Leaves-after_says old only.calls c) (subst (λ (h : History). Leaves h c) only.told leaves)

-- where saying all of the bytes has come: a front of them is said
pub record SaidFront (tells : Type 0) (old new : History) (bytes rest : List ℕ) : Type 0 where
  pub front : List ℕ
  pub is : bytes ≡ front ++ rest
  pub only : tells → OnlySaid old new front

pub front_begun : (tells : Type 0) (h : History) (bytes : List ℕ) → SaidFront tells h h bytes bytes
front_begun tells h bytes = record { front = []; is = refl; only = λ _. said_nothing h }

pub front_more : (tells : Type 0) (a b c : History) (bytes rest left : List ℕ) (n : ℕ) → SaidFront tells a b bytes rest → (tells → c ≡ Said b rest n) → left ≡ drop n rest → SaidFront tells a c bytes left
front_more tells a b c bytes rest left n said told left_is = record {
  front = said.front ++ take n rest;
  is = said.is ∙ ap (λ (r : List ℕ). said.front ++ r) (sym (take-append-drop n rest) ∙ ap (λ (r : List ℕ). take n rest ++ r) (sym left_is)) ∙ sym (append_assoc said.front (take n rest) left);
  only = λ t. said_more a b c said.front (take n rest) (said.only t) (said_once b c rest n (told t));
}

pub front_failed : (tells : Type 0) (a b c : History) (bytes rest : List ℕ) → SaidFront tells a b bytes rest → (tells → OnlySaid b c []) → 0 < length rest → SaidPart tells a c bytes
front_failed tells a b c bytes rest said failed more = record {
  part = said.front;
  is_part = record { rest = rest; is = said.is; more = more };
  only = λ t. subst (λ (out : List ℕ). OnlySaid a c out) (append-nil said.front) (said_more a b c said.front [] (said.only t) (failed t));
}

-- a say that took nothing said nothing
pub said_none : (old new : History) (piece : List ℕ) (n : ℕ) → n ≡ 0 → new ≡ Said old piece n → OnlySaid old new []
said_none old new piece n none told = subst (λ (m : ℕ). OnlySaid old new (take m piece)) none (said_once old new piece n told)
