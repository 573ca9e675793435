-- Words of a proof list, which are no words of the grammar of problems.
use Rattle.std.specs.Prelude.{ℕ, Bool, true, false, ◌&&◌, ◌||◌, ◌==◌, if◌then◌else◌, List, [], ◌∷◌, codes, Option, Some, None, Result, Ok}
use Rattle.std.specs.Str.{bytes_eq}
use Rattle.spl_terms.specs.declared.clause.Part.{Part}
use Rattle.spl_terms.specs.declared.clause.Part.TheVariants.{Constraint, Antecedent, Succedent}
use Rattle.dfg_tokens.specs.declared.token.Token.{Token}
use Rattle.dfg_tokens.specs.declared.piece.Mark.TheVariants.{Comma}
use Rattle.dfg_tokens.specs.Cursors.{tail}
use Rattle.dfg_terms.specs.declared.fault.ReadFault.{ReadFault}
use Rattle.dfg_terms.specs.declared.fault.FaultKind.TheVariants.{Unexpected}
use Rattle.dfg_terms.specs.Reading.{◌>>=◌, refuse, kind_is_identifier, next_stray, mark_at, identifier_at, bytes_of}
use Rattle.dfg_terms.specs.Numbers.{numeral_at}
use Rattle.proof_reader.specs.declared.pairs.RuleName.{RuleName}
use Rattle.proof_reader.specs.declared.pairs.RuleName.TheVariants as rules

-- whether the next token is an identifier of these bytes
unfoldable pub next_spells : List ℕ → List ℕ → List Token → Bool
next_spells bytes text [] = false
next_spells bytes text (t ∷ ts) = kind_is_identifier t.kind && bytes_eq (bytes_of bytes t) text

unfoldable pub spelled_at : List ℕ → List ℕ → List Token → Result (List Token) ReadFault
spelled_at bytes text ts = if next_spells bytes text ts then Ok (tail ts) else refuse Unexpected ts

-- a byte that begins no token of a problem: `:` is 58, and `-` is 45
unfoldable pub stray_at : ℕ → List Token → Result (List Token) ReadFault
stray_at b ts = if next_stray b ts then Ok (tail ts) else refuse Unexpected ts

-- a label, and `:`
unfoldable pub label_at : List ℕ → List ℕ → List Token → Result (List Token) ReadFault
label_at bytes text ts = spelled_at bytes text ts >>= λ rest. stray_at 58 rest

-- ---- identifiers that stand for something

abbrev pub something_if : {X : Type 0} → Option X → List Token → List Token → Result (X × List Token) ReadFault
something_if None ts rest = refuse Unexpected ts
something_if (Some x) ts rest = Ok (x, rest)

-- the thing that the next identifier stands for
abbrev pub something_at : {X : Type 0} → (List ℕ → Option X) → List ℕ → List Token → Result (X × List Token) ReadFault
something_at meant bytes ts = identifier_at ts >>= λ w. something_if (meant (bytes_of bytes w.0)) ts w.1

abbrev pub case_rule_of : List ℕ → Option RuleName
case_rule_of text =
    if bytes_eq text (codes "asm") then Some rules.Assume
    else (if bytes_eq text (codes "cal") then Some rules.CaseLeft
    else (if bytes_eq text (codes "car") then Some rules.CaseRight
    else (if bytes_eq text (codes "cab") then Some rules.CaseBoth
    else None)))

-- the rule with this short name
unfoldable pub rule_of : List ℕ → Option RuleName
rule_of text =
    if bytes_eq text (codes "inp") then Some rules.Input
    else (if bytes_eq text (codes "res") then Some rules.Resolve
    else (if bytes_eq text (codes "fac") then Some rules.Factor
    else (if bytes_eq text (codes "par") then Some rules.Paramodulate
    else (if bytes_eq text (codes "ref") then Some rules.Reflex
    else (if bytes_eq text (codes "eqf") then Some rules.EqFactor
    else case_rule_of text)))))

-- the part with this short name; the succedent only where it may be meant
unfoldable pub part_of : Bool → List ℕ → Option Part
part_of any text =
    if bytes_eq text (codes "con") then Some Constraint
    else (if bytes_eq text (codes "ant") then Some Antecedent
    else (if any && bytes_eq text (codes "suc") then Some Succedent
    else None))

-- whether an equation is read from right to left
unfoldable pub direction_of : List ℕ → Option Bool
direction_of text = if bytes_eq text (codes "lr") then Some false else (if bytes_eq text (codes "rl") then Some true else None)

-- ---- pairs: a label, what it labels, and a comma

unfoldable pub number_pair : List ℕ → List ℕ → List Token → Result (ℕ × List Token) ReadFault
number_pair bytes label ts = label_at bytes label ts >>= λ n. numeral_at bytes n >>= λ x. mark_at Comma x.1 >>= λ rest. Ok (x.0, rest)

unfoldable pub part_pair : List ℕ → Bool → List Token → Result (Part × List Token) ReadFault
part_pair bytes any ts = label_at bytes (codes "part") ts >>= λ n. something_at (part_of any) bytes n >>= λ x. mark_at Comma x.1 >>= λ rest. Ok (x.0, rest)

unfoldable pub direction_pair : List ℕ → List ℕ → List Token → Result (Bool × List Token) ReadFault
direction_pair bytes label ts = label_at bytes label ts >>= λ n. something_at direction_of bytes n >>= λ x. mark_at Comma x.1 >>= λ rest. Ok (x.0, rest)

-- 1 or 2
unfoldable pub side_at : List ℕ → List Token → Result (ℕ × List Token) ReadFault
side_at bytes ts = numeral_at bytes ts >>= λ x. if x.0 == 1 || x.0 == 2 then Ok x else refuse Unexpected ts

unfoldable pub side_pair : List ℕ → List Token → Result (ℕ × List Token) ReadFault
side_pair bytes ts = label_at bytes (codes "side") ts >>= λ n. side_at bytes n >>= λ x. mark_at Comma x.1 >>= λ rest. Ok (x.0, rest)

-- `no`, or the number of an atom
unfoldable pub negated_at : List ℕ → List Token → Result (Option ℕ × List Token) ReadFault
negated_at bytes ts = if next_spells bytes (codes "no") ts then Ok (None, tail ts) else (numeral_at bytes ts >>= λ x. Ok (Some x.0, x.1))

unfoldable pub negated_pair : List ℕ → List Token → Result (Option ℕ × List Token) ReadFault
negated_pair bytes ts = label_at bytes (codes "neg") ts >>= λ n. negated_at bytes n >>= λ x. mark_at Comma x.1 >>= λ rest. Ok (x.0, rest)
