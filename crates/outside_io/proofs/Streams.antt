-- Bytes that are taken or appended one piece after another.
use Rattle.std.proofs.Common.{◌≡◌, ℕ, ◌+◌, List, ◌++◌, take, drop, ◌∙◌, sym, ap, subst}
use Rattle.std.proofs.Math.Seq.{take-add}
use Rattle.std.proofs.lemmas.List.{take-append-drop, drop-drop}
use Rattle.std.proofs.KnownBytes.{Appends-trans, Appends-kept, Appends-nil, Consumes-trans, Consumes-kept, Consumes-nil}
use Rattle.std.specs.declared.option.Option.{Option}
use Rattle.std.specs.Io.KnownBytes.{Appends}

-- the first n bytes were appended, and then the first m of the others
pub appends_take : (a b c : Option (List ℕ)) (n m : ℕ) (xs : List ℕ) → Appends a b (take n xs) → Appends b c (take m (drop n xs)) → Appends a c (take (n + m) xs)
appends_take a b c n m xs h k =
    subst (λ z. Appends a c z) (sym (take-add n m xs))
    (Appends-trans a b c (take n xs) (take m (drop n xs)) h k)

-- none of the bytes was appended
pub appends_none : (a : Option (List ℕ)) (xs : List ℕ) → Appends a a (take 0 xs)
appends_none a xs = Appends-nil a

-- what was copied from the rest, and the rest behind it
pub given_rest : (bytes front : List ℕ) (at n : ℕ) → front ≡ take n (drop at bytes) → drop at bytes ≡ front ++ drop (at + n) bytes
given_rest bytes front at n h =
    subst (λ z. drop at bytes ≡ z ++ drop (at + n) bytes) (sym h)
    (sym (take-append-drop n (drop at bytes)) ∙ ap (λ z. take n (drop at bytes) ++ z) (drop-drop n at bytes))

pub ruleset stream_laws = (appends_take, appends_none, Appends-kept, Consumes-trans, Consumes-nil, Consumes-kept)
