mod Entering
mod Marked
mod Drafted
mod Standing
mod Marks
mod Copied
mod Priced
mod PricedRebase
