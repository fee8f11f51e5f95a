pub mod NamesAreMnemonics
pub mod NumbersReadBack
pub mod OneLineMore
pub mod OneListing
pub mod PaddedDigits
pub mod TextsReadBack
pub mod TokensArePlain
