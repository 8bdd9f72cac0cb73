-- The text of the words of a line.
use Rattle.std.proofs.Common.{◌≡◌, ℕ, ◌+◌, ◌/◌, ◌%◌, ◌^◌, ◌<◌, ◌≤◌, nat_lt, List, [], ◌∷◌, ◌++◌, take, length, get_or, set, ap, ◌∙◌, arith}
use Rattle.std.specs.List.{flat_map}
use Rattle.std.specs.Str.{IsUtf8, IsAscii}
use Rattle.std.proofs.lemmas.Bool.{cond_both}
use Rattle.std.proofs.lemmas.Grind.{flat_map-append}
use Rattle.std.proofs.lemmas.List.{take_all, take_more_set, take_more}
use Rattle.std.proofs.lemmas.Str.{IsUtf8-append, IsUtf8-nil, IsUtf8-from_ascii}
use Rattle.std.proofs.lemmas.Str.Ascii.{IsAscii-cons, IsAscii-nil}
use Rattle.jobfile.specs.Lines.{hex_digit, hex_byte}
use Rattle.printing.specs.Lines.{spaced_word, words_text}

-- hexadecimal digits, and so words in them, are ASCII, and so text
digit_is_ascii : (n : ℕ) → n < 16 → hex_digit n < 128
digit_is_ascii n h = cond_both (nat_lt n 10) (48 + n) (87 + n) (λ d. d < 128) (λ _. omega (arith, h)) (λ _. omega (arith, h))

byte_is_ascii : (b : ℕ) (bs : List ℕ) → b < 256 → IsAscii bs → IsAscii (hex_byte b ++ bs)
byte_is_ascii b bs h rest =
    IsAscii-cons (hex_digit (b / 16)) (hex_digit (b % 16) ∷ bs) (digit_is_ascii (b / 16) (omega (arith, h)))
    (IsAscii-cons (hex_digit (b % 16)) bs (digit_is_ascii (b % 16) (omega arith)) rest)

bytes_are_ascii : (a b c d : ℕ) → IsAscii (hex_byte (a % 256) ++ (hex_byte (b % 256) ++ (hex_byte (c % 256) ++ hex_byte (d % 256))))
bytes_are_ascii a b c d =
    let last = hex_byte (d % 256) in
    let two = hex_byte (c % 256) ++ last in
    byte_is_ascii (a % 256) (hex_byte (b % 256) ++ two) (omega arith)
    (byte_is_ascii (b % 256) two (omega arith) (byte_is_ascii (c % 256) last (omega arith) (byte_is_ascii (d % 256) [] (omega arith) IsAscii-nil)))

spaced_is_text : (w : ℕ) → IsUtf8 (spaced_word w)
spaced_is_text w =
    let digits = hex_byte (w / 2 ^ 24 % 256) ++ (hex_byte (w / 2 ^ 16 % 256) ++ (hex_byte (w / 2 ^ 8 % 256) ++ hex_byte (w % 256))) in
    let are = bytes_are_ascii (w / 2 ^ 24) (w / 2 ^ 16) (w / 2 ^ 8) w in
    IsUtf8-from_ascii (spaced_word w)
    (IsAscii-cons 32 (48 ∷ (120 ∷ digits)) (omega arith) (IsAscii-cons 48 (120 ∷ digits) (omega arith) (IsAscii-cons 120 digits (omega arith) are)))

pub words_are_text : (ws : List ℕ) → IsUtf8 (words_text ws)
words_are_text [] = IsUtf8-nil
words_are_text (w ∷ ws) = IsUtf8-append (spaced_word w) (words_text ws) (spaced_is_text w) (words_are_text ws)

-- one word more stands in the room
pub one_more : (room : List (List ℕ)) (ws text : List ℕ) (i : ℕ) → i < length room → i < length ws → text ≡ spaced_word (get_or ws i 0)
    → flat_map (λ x. x) (take i room) ≡ words_text (take i ws) → flat_map (λ x. x) (take (i + 1) (set room i text)) ≡ words_text (take (i + 1) ws)
one_more room ws text i fits there is so_far =
    rw (take_more_set room i text fits, take_more ws i 0 there, flat_map-append (λ x. x) (take i room) (text ∷ []), flat_map-append spaced_word (take i ws) (get_or ws i 0 ∷ []), is, so_far)

-- with as many as there are words, the room is their text
pub room_is_text : (room : List (List ℕ)) (ws : List ℕ) (i : ℕ) → length ws ≤ i → i ≤ length ws
    → flat_map (λ x. x) (take i room) ≡ words_text (take i ws) → flat_map (λ x. x) (take (length ws) room) ≡ words_text ws
room_is_text room ws i least most so_far =
    let all : length ws ≡ i = omega (arith, least, most) in
    ap (λ n. flat_map (λ x. x) (take n room)) all ∙ (so_far ∙ ap words_text (take_all i ws least))
