-- The keys and the strings among the tokens of a text are UTF-8, where the text is.
use Rattle.std.proofs.Common.{◌≡◌, ◌-◌, ℕ, Bool, true, false, cond, ◌&&◌, ◌==◌, nat_eq, List, [], ◌∷◌, ◌++◌, Option}
use Rattle.std.proofs.Common.{Some, None}
use Rattle.std.proofs.Common.{length, take, drop, IsUtf8, refl, arith}
use Rattle.std.specs.Prelude.{⊤}
use Rattle.json.specs.Text.{plain, content}
use Rattle.json.specs.Token.{Token}
use Rattle.std.specs.List.{starts_with}
use Rattle.json.specs.Word.{word, head, ends_word, number_before, after_number, literal, is_operator, is_space}
use Rattle.json.specs.Lex.{Lexeme, token, comma, colon, Class, quote, backslash, operator, space, other, class}
use Rattle.json.specs.Lex.{operator_lexeme, string_token, Mode, between, in_word, in_string, in_escape, lex_byte, lex}
use Rattle.json.specs.Lex.{Place, fresh, after_value, after_comma, after_key, may_begin, may_close}
use Rattle.json.specs.Lex.{if_allowed, place_token, punctuate, tokens}
use Rattle.json.specs.Ascii as ascii
use Rattle.room_valid.proofs.Contents.{behind, eq_low, one_on, string_utf8}

abbrev pub HasText : Token → Type 0
HasText (Token.key s) = IsUtf8 s
HasText (Token.string s) = IsUtf8 s
HasText _ = ⊤

abbrev pub HaveTexts : List Token → Type 0
HaveTexts [] = ⊤
HaveTexts (t ∷ ts) = HasText t × HaveTexts ts

-- lexemes

abbrev Holds : Lexeme → Type 0
Holds (token t) = HasText t
Holds comma = ⊤
Holds colon = ⊤

abbrev AllHold : List Lexeme → Type 0
AllHold [] = ⊤
AllHold (l ∷ ls) = Holds l × AllHold ls

either : (b : Bool) (x y : Token) → HasText x → HasText y → HasText (cond b x y)
either true x y h k = h
either false x y h k = k

number_text : (t : List ℕ) (o : Option (List ℕ)) → HasText (number_before t o)
number_text t None = tt
number_text t (Some rest) =
    either (ends_word rest) (Token.number (take (length t - length rest) t)) Token.bad tt tt

literal_text : (name : List ℕ) (x : Token) (t : List ℕ) → HasText x → HasText (literal name x t)
literal_text name x t h =
    either (starts_with nat_eq t name && ends_word (drop (length name) t)) x Token.bad h tt

word_text : (t : List ℕ) → HasText (word t)
unfolding word
word_text t =
    let number = number_before t (after_number t) in
    let nothing = literal ascii.null_text Token.null t in
    let no = literal ascii.false_text (Token.boolean false) t in
    let yes = literal ascii.true_text (Token.boolean true) t in
    let null_or = cond (head t == ascii.lower_n) nothing number in
    let no_or = cond (head t == ascii.lower_f) no null_or in
    either (head t == ascii.lower_t) yes no_or (literal_text ascii.true_text (Token.boolean true) t tt)
    (either (head t == ascii.lower_f) no null_or (literal_text ascii.false_text (Token.boolean false) t tt)
    (either (head t == ascii.lower_n) nothing number (literal_text ascii.null_text Token.null t tt)
    (number_text t (after_number t))))

operator_by : (a b c d e : Bool)
    → Holds (cond a (token Token.begin_object) (cond b (token Token.end_object) (cond c (token Token.begin_array)
    (cond d (token Token.end_array) (cond e comma colon)))))
operator_by true b c d e = tt
operator_by false true c d e = tt
operator_by false false true d e = tt
operator_by false false false true e = tt
operator_by false false false false true = tt
operator_by false false false false false = tt

operator_text : (x : ℕ) → Holds (operator_lexeme x)
operator_text x =
    operator_by (x == ascii.open_brace) (x == ascii.close_brace) (x == ascii.open_bracket) (x == ascii.close_bracket)
    (x == ascii.comma)

string_text : (xs : List ℕ) (o : Option (List ℕ)) → content plain xs ≡ o → IsUtf8 xs → HasText (string_token o)
string_text xs None e u = tt
string_text xs (Some s) e u = string_utf8 xs s u e

-- only a quote is of its class

abbrev is_quote : Class → Bool
is_quote quote = true
is_quote backslash = false
is_quote operator = false
is_quote space = false
is_quote other = false

quote_by : (a b c d : Bool) → cond a quote (cond b backslash (cond c operator (cond d space other))) ≡ quote → a ≡ true
quote_by true b c d e = refl
quote_by false true c d e = cc
quote_by false false true d e = cc
quote_by false false false true e = cc
quote_by false false false false e = cc

quote_is : (x : ℕ) → class x ≡ quote → (x == 34) ≡ true
quote_is x e = quote_by (x == 34) (x == ascii.backslash) (is_operator x) (is_space x) e

one_byte : (m : Mode) (c : Class) (x : ℕ) (xs : List ℕ) (k : Mode → List Lexeme) → (c ≡ quote → IsUtf8 xs)
    → ((n : Mode) → AllHold (k n)) → AllHold (lex_byte m c x xs k)
one_byte between quote x xs k u h = (string_text xs (content plain xs) refl (u refl), h in_string)
one_byte between backslash x xs k u h = (tt, h in_word)
one_byte between operator x xs k u h = (operator_text x, h between)
one_byte between space x xs k u h = h between
one_byte between other x xs k u h = (word_text (x ∷ xs), h in_word)
one_byte in_word quote x xs k u h = h in_word
one_byte in_word backslash x xs k u h = h in_word
one_byte in_word operator x xs k u h = (operator_text x, h between)
one_byte in_word space x xs k u h = h between
one_byte in_word other x xs k u h = h in_word
one_byte in_string quote x xs k u h = h between
one_byte in_string backslash x xs k u h = h in_escape
one_byte in_string operator x xs k u h = h in_string
one_byte in_string space x xs k u h = h in_string
one_byte in_string other x xs k u h = h in_string
one_byte in_escape c x xs k u h = h in_string

-- what was passed, and what is left
lexed : (m : Mode) (left done : List ℕ) → IsUtf8 (done ++ left) → AllHold (lex m left)
unfolding lex
lexed m [] done u = tt
lexed m (x ∷ xs) done u =
    one_byte m (class x) x xs (λ n. lex n xs) (λ q. behind done x xs (eq_low x 34 (omega arith) (quote_is x q)) u)
    (λ n. lexed n xs (done ++ x ∷ []) (one_on done x xs u))

-- tokens

allowed : (b : Bool) (t : Token) (k : Place → List Token) (n : Place) → HasText t
    → ((p : Place) → HaveTexts (k p)) → HaveTexts (if_allowed b t k n)
allowed true t k n h more = (h, more n)
allowed false t k n h more = (tt, tt)

placed : (p : Place) (t : Token) (b : Bool) (k : Place → List Token) → HasText t
    → ((n : Place) → HaveTexts (k n)) → HaveTexts (place_token p t b k)
placed p Token.begin_object b k h more = allowed (may_begin p) Token.begin_object k fresh tt more
placed p Token.end_object b k h more = allowed (may_close p) Token.end_object k after_value tt more
placed p Token.begin_array b k h more = allowed (may_begin p) Token.begin_array k fresh tt more
placed p Token.end_array b k h more = allowed (may_close p) Token.end_array k after_value tt more
placed p (Token.key s) b k h more = (tt, tt)
placed p (Token.string s) true k h more = allowed (may_begin p) (Token.key s) k after_key h more
placed p (Token.string s) false k h more = allowed (may_begin p) (Token.string s) k after_value h more
placed p (Token.number s) b k h more = allowed (may_begin p) (Token.number s) k after_value tt more
placed p (Token.boolean v) b k h more = allowed (may_begin p) (Token.boolean v) k after_value tt more
placed p Token.null b k h more = allowed (may_begin p) Token.null k after_value tt more
placed p Token.bad b k h more = (tt, tt)

punctuated : (p : Place) (ls : List Lexeme) → AllHold ls → HaveTexts (punctuate p ls)
unfolding punctuate
punctuated fresh [] h = tt
punctuated after_value [] h = tt
punctuated after_comma [] h = (tt, tt)
punctuated after_key [] h = (tt, tt)
punctuated fresh (token t ∷ ls) h = placed fresh t _ (λ n. punctuate n ls) h.0 (λ n. punctuated n ls h.1)
punctuated after_value (token t ∷ ls) h = placed after_value t _ (λ n. punctuate n ls) h.0 (λ n. punctuated n ls h.1)
punctuated after_comma (token t ∷ ls) h = placed after_comma t _ (λ n. punctuate n ls) h.0 (λ n. punctuated n ls h.1)
punctuated after_key (token t ∷ ls) h = placed after_key t _ (λ n. punctuate n ls) h.0 (λ n. punctuated n ls h.1)
punctuated fresh (comma ∷ ls) h = (tt, tt)
punctuated after_value (comma ∷ ls) h = punctuated after_comma ls h.1
punctuated after_comma (comma ∷ ls) h = (tt, tt)
punctuated after_key (comma ∷ ls) h = (tt, tt)
punctuated fresh (colon ∷ ls) h = (tt, tt)
punctuated after_value (colon ∷ ls) h = (tt, tt)
punctuated after_comma (colon ∷ ls) h = (tt, tt)
punctuated after_key (colon ∷ ls) h = punctuated fresh ls h.1

pub tokens_texts : (text : List ℕ) → IsUtf8 text → HaveTexts (tokens text)
tokens_texts text u = punctuated fresh (lex between text) (lexed between text [] u)
