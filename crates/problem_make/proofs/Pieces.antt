-- Texts that are appended one after another.
use Rattle.std.proofs.Common.{◌≡◌, ℕ, List, ◌++◌, ap, ◌∙◌, append_assoc}

pub two_pieces : (o x y a b : List ℕ) → x ≡ o ++ a → y ≡ x ++ b → y ≡ o ++ (a ++ b)
two_pieces o x y a b p q = q ∙ ap (λ t. t ++ b) p ∙ append_assoc o a b

pub three_pieces : (o x y z a b c : List ℕ) → x ≡ o ++ a → y ≡ x ++ b → z ≡ y ++ c → z ≡ o ++ (a ++ b ++ c)
three_pieces o x y z a b c p q r = two_pieces o y z (a ++ b) c (two_pieces o x y a b p q) r

pub four_pieces : (o p q r s a b c d : List ℕ) → p ≡ o ++ a → q ≡ p ++ b → r ≡ q ++ c → s ≡ r ++ d → s ≡ o ++ (a ++ b ++ c ++ d)
four_pieces o p q r s a b c d h i j k = two_pieces o r s (a ++ b ++ c) d (three_pieces o p q r a b c h i j) k

pub five_pieces : (o p q r s t a b c d e : List ℕ) → p ≡ o ++ a → q ≡ p ++ b → r ≡ q ++ c → s ≡ r ++ d → t ≡ s ++ e → t ≡ o ++ (a ++ b ++ c ++ d ++ e)
five_pieces o p q r s t a b c d e h i j k l = three_pieces o r s t (a ++ b ++ c) d e (three_pieces o p q r a b c h i j) k l
