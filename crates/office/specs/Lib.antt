pub mod Office
pub mod Demand1Words
pub mod Demand2Words
pub mod Demand3Words
pub mod FinishWords
pub mod SwapWords
pub mod EditionWords
pub mod Demands
