mod Laying
mod PairCounts
mod Written
mod Answering
