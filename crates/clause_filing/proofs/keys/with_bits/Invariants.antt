use Rattle.std.proofs.Common.{◌≡◌, fold, map, drop}
use Rattle.std.specs.Prelude.{bit_or}
use Rattle.spl_terms.specs.declared.atom.Atom.{Atom}
use Rattle.clause_filing.specs.Filings.{key, bit_of}
use Rattle.clause_filing.proofs.keys.with_bits.Given as goal

-- what was added, with what is left added, makes the whole
abbrev pub invariant-loop-atom : goal.invariant-loop-atom
invariant-loop-atom l = fold bit_or l.mask (map (λ (a : Atom). bit_of (key l.side a)) (drop l.atom-index l.atoms)) ≡ fold bit_or l.mask-2 (map (λ (a : Atom). bit_of (key l.side a)) l.atoms)
