-- The documents' number of each refusal, and what a check found.
use Rattle.std.specs.Prelude.{ℕ, Result, Ok, Err}
use Rattle.refusal.specs.declared.Refusal.{Refusal}
use Rattle.refusal.specs.declared.Refusal.TheVariants.{BadPostCount, BadThreshold, BadPost, BadCheckPoint, BadLength, NoSuchRow, WrongMark, NotAnElement, TooFewAccepted, MalformedLine, LineOutOfRange, NoRoom, InconsistentShares, BadTermCount, CallerBarred, BadDealer, PlaceFilled, BadPostList, TooManyPosts}

-- "Refusals have fixed numbers"
abbrev pub number : Refusal → ℕ
number BadPostCount = 1
number BadThreshold = 2
number BadPost = 3
number BadCheckPoint = 4
number BadLength = 5
number NoSuchRow = 6
number WrongMark = 7
number NotAnElement = 8
number TooFewAccepted = 9
number MalformedLine = 10
number LineOutOfRange = 11
number NoRoom = 12
number InconsistentShares = 13
number BadTermCount = 14
number CallerBarred = 15
number BadDealer = 16
number PlaceFilled = 17
number BadPostList = 18
number TooManyPosts = 19

-- The refusal's number, or 0 where nothing is refused.
abbrev pub refused : {A : Type 0} → Result A Refusal → ℕ
refused (Ok x) = 0
refused (Err r) = number r
